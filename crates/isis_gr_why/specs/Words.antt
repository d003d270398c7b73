-- The reason as two words, which cross to C, and the numbers of questions and calls (house). Refusals and lines have document 01's numbers.
use Rattle.std.specs.Prelude.{ℕ, ◌+◌, ◌*◌, ◌%◌, ◌^◌, ◌≡◌, Bool, true, false, cond, ◌&&◌, List, eqb, ltb}
use Rattle.adjacency.specs.declared.record.Key.{Key}
use Rattle.model.specs.Numbers.{refusal_no, position_no}
use Rattle.own_words.specs.Words.{gateway_of}
use Rattle.reasons.specs.Why.{Why, NotSo, Init, Suppressed, NoRecord, Refused, Expired, Released, Cleared, Fits, Outranked, call_of, why_of}
use Rattle.reasons.specs.declared.why.Call.{Call}
use Rattle.reasons.specs.declared.why.Call.TheVariants.{Receive, Tick, Release, Clear, CsnpComplete, DatabaseComplete, LookUp, LinkMetric, NextHello, Waiting}
use Rattle.reasons.specs.declared.why.Question.{Question}
use Rattle.reasons.specs.declared.why.Question.TheVariants.{NotAdvertised, Vanished, NoCsnps}
use Rattle.isis_gr_why.specs.Explains.{Makes}
use Rattle.isis_gr_why.specs.declared.words.ReasonWords.{ReasonWords}

-- ---- what comes in

-- 0 not advertised, 1 vanished, 2 no CSNPs
abbrev pub question_of : ℕ → Question
question_of n = cond (eqb n 1) Vanished (cond (eqb n 2) NoCsnps NotAdvertised)

-- a call by its number, from 0 on, with the circuit and the level that it names and a tick's clock
abbrev pub call_from : ℕ → ℕ → ℕ → ℕ → Call
call_from n on of clock =
    cond (eqb n 0) (Receive on)
    (cond (eqb n 1) (Tick clock)
    (cond (eqb n 2) (Release on)
    (cond (eqb n 3) (Clear on)
    (cond (eqb n 4) (CsnpComplete on of)
    (cond (eqb n 5) (DatabaseComplete of)
    (cond (eqb n 6) (LookUp on) (cond (eqb n 7) (LinkMetric on) (cond (eqb n 8) (NextHello on of) Waiting))))))))

-- there is such a question, and such a call
abbrev pub are_known : ℕ → ℕ → Bool
are_known question call = ltb question 3 && ltb call 10

-- ---- what goes out

-- the lowest octet
abbrev pub reason_no : Why → ℕ
reason_no NotSo = 0
reason_no Init = 1
reason_no Suppressed = 2
reason_no NoRecord = 3
reason_no (Refused x) = 4
reason_no Expired = 5
reason_no Released = 6
reason_no Cleared = 7
reason_no (Fits line) = 8
reason_no (Outranked system priority mac) = 9

-- of a question or a call that there is not
abbrev pub unknown_no : ℕ
unknown_no = 10

-- the refusal's number or the line stands in the second octet, the refusal's position or the System ID in those above; 0 where there is none
abbrev pub detail_no : Why → ℕ
detail_no NotSo = 0
detail_no Init = 0
detail_no Suppressed = 0
detail_no NoRecord = 0
detail_no (Refused x) = 2 ^ 8 * refusal_no x + 2 ^ 16 * position_no x
detail_no Expired = 0
detail_no Released = 0
detail_no Cleared = 0
detail_no (Fits line) = 2 ^ 8 * line
detail_no (Outranked system priority mac) = 2 ^ 16 * (system % 2 ^ 48)

abbrev pub answer_no : Why → ℕ
answer_no w = reason_no w + detail_no w

-- the second word: MAC and priority
abbrev pub pair_no : Why → ℕ
pair_no NotSo = 0
pair_no Init = 0
pair_no Suppressed = 0
pair_no NoRecord = 0
pair_no (Refused x) = 0
pair_no Expired = 0
pair_no Released = 0
pair_no Cleared = 0
pair_no (Fits line) = 0
pair_no (Outranked system priority mac) = mac % 2 ^ 48 + 2 ^ 48 * priority

-- the words of a reason
pub record Says (v : Why) (w : ReasonWords) : Type 0 where
  pub answer : w.answer ≡ answer_no v
  pub pair : w.pair ≡ pair_no v

-- What the call for C promises: the reason's words, the second memory and the reply buffer as the call leaves them. Of a question or a call that there
-- is not it says so, and the second memory, which was old, and the reply buffer stay as they were.
pub record EncodesWhy (question : ℕ) (known : Bool) (call : Call) (mac : ℕ) (frame b : List ℕ) (n : ℕ) (k : Key) (ws old ws' b' : List ℕ) (w : ReasonWords) : Type 0 where
  pub makes : known ≡ true → Makes call mac frame b ws ws' b'
  pub says : known ≡ true → (j : Key) → Says (why_of (question_of question) (gateway_of ws) (call_of call mac frame b j) n k) w
  pub unknown : known ≡ false → (w.answer ≡ unknown_no) × (w.pair ≡ 0) × (ws' ≡ old) × (b' ≡ b)
