-- What the call promises (document 02, W-204), of the words ws before the call in question, the words ws' of the second memory and the reply buffer b,
-- which is b' at exit.
use Rattle.std.specs.Prelude.{ℕ, ◌≡◌, List}
use Rattle.adjacency.specs.declared.record.Key.{Key}
use Rattle.model.specs.Step.{Outcome, step}
use Rattle.own_words.specs.Words.{gateway_of}
use Rattle.gateway.specs.Whole.{whole_of}
use Rattle.reasons.specs.Why.{call_of, reason_of, why_of}
use Rattle.reasons.specs.declared.why.Call.{Call}
use Rattle.reasons.specs.declared.why.Call.TheVariants.{Receive, Tick, Release, Clear, CsnpComplete, DatabaseComplete, LookUp, LinkMetric, NextHello, Waiting}
use Rattle.reasons.specs.declared.why.Question.{Question}
use Rattle.reasons.specs.declared.why.Reason.{Reason}

-- the reply buffer b after the call: a receive alone writes it
abbrev pub replied : Call → Outcome → List ℕ → List ℕ
replied (Receive n) o b = o.reply
replied (Tick clock) o b = b
replied (Release n) o b = b
replied (Clear n) o b = b
replied (CsnpComplete n level) o b = b
replied (DatabaseComplete level) o b = b
replied (LookUp n) o b = b
replied (LinkMetric n) o b = b
replied (NextHello n level) o b = b
replied Waiting o b = b

-- The second memory and the reply buffer are as the call leaves them, and the unfinished frames (document 02, W-205), of which no question is asked, those
-- of the words before, whatever their octets fs. A look up may have any key.
pub record Makes (call : Call) (mac : ℕ) (frame b ws ws' b' : List ℕ) : Type 0 where
  pub next : (k : Key) → gateway_of ws' ≡ (step (gateway_of ws) (call_of call mac frame b k)).next
  pub frames : (fs : List ℕ) → (whole_of ws' fs).unfinished ≡ (whole_of ws fs).unfinished
  pub reply : (k : Key) → b' ≡ replied call (step (gateway_of ws) (call_of call mac frame b k)) b

-- .. and the answer is the reason, for circuit n and the key k.
pub record Explains (q : Question) (call : Call) (mac : ℕ) (frame b : List ℕ) (n : ℕ) (k : Key) (ws ws' b' : List ℕ) (r : Reason) : Type 0 where
  pub makes : Makes call mac frame b ws ws' b'
  pub reason : (j : Key) → reason_of r ≡ why_of q (gateway_of ws) (call_of call mac frame b j) n k
