-- Document 01, "Sample runs", C1 to C10, as runs of `step` from what setup returned: all rows under one statement. On the right of ≡
-- stand the document's numbers; expiries that it leaves out (383 in C8; 32, 37 and 39 in C9) are clock + Remaining Time and
-- clock + Holding Time, by lines 3 and 5 of its "Marks and holding time".
use Rattle.std.specs.Prelude.{ℕ, true, false, ◌≡◌, List, [], ◌∷◌, ◌++◌, map, replicate, eqb, ltb, Option, Some, None}
use Rattle.adjacency.specs.declared.record.Data.{Data}
use Rattle.adjacency.specs.declared.record.Key.{Key}
use Rattle.adjacency.specs.declared.record.Mark.{Mark}
use Rattle.adjacency.specs.declared.record.Mark.TheVariants.{Clear, Restart, Planned}
use Rattle.adjacency.specs.declared.record.State.TheVariants.{Init, Up}
use Rattle.timer_parts.specs.declared.t3.T3.{T3}
use Rattle.timer_parts.specs.declared.t3.T3.TheVariants.{Runs}
use Rattle.settings.specs.declared.mode.Mode.TheVariants.{Running, Restarting}
use Rattle.basics.specs.declared.refusal.Refusal.TheVariants.{BadTlv}
use Rattle.model.specs.Answers.{Answer, Refused, Received, Told, Metric, number_of}
use Rattle.model.specs.Gateway.{Gateway, setup, record_at}
use Rattle.model.specs.Step.{Outcome, LinkMetric, At, step}
use Rattle.model.specs.Trace.{after}
use Rattle.model.specs.SampleFrames.{settings, hello, acknowledging, reversing, Row, row, lent_octets, receiving, calls_of, played, From}
use Rattle.adjacency.specs.declared.record.State.{State}

-- ---- what is seen of a row

pub record Seen : Type 0 where
  pub adjacency : Option State
  pub reply : List ℕ
  pub answer : Answer

abbrev pub key : Key
key = record { level = 0; system = 0x192168001002; mac = 0 }

abbrev pub seen : Outcome → Seen
seen o = record { adjacency = record_at o.next 1 key; reply = o.reply; answer = o.answer }

abbrev pub saw : Option State → List ℕ → Answer → Seen
saw adjacency reply answer = record { adjacency = adjacency; reply = reply; answer = answer }

abbrev pub kept : ℕ → Data
kept expiry = record { expiry = expiry; suppressed = false; last = record { priority = 0; tlv = true; reverse = None } }

abbrev pub up : ℕ → Mark → Option State
up expiry mark = Some (Up (kept expiry) mark)

-- 211, 9, the flag, Remaining Time, the sender's System ID
abbrev pub octets : ℕ → ℕ → ℕ → List ℕ
octets flag high low = 0xD3 ∷ 0x09 ∷ flag ∷ high ∷ low ∷ 0x19 ∷ 0x21 ∷ 0x68 ∷ 0x00 ∷ 0x10 ∷ 0x02 ∷ 0xFF ∷ []

-- the flags and the Remaining Time of the reply, the levels of line 1's order (3 for both, 0 without an order), the record's state before
-- and after (0 none, 1 INIT, 2 UP; none is suppressed), whether the restart goes on (1)
abbrev pub accepted : ℕ → ℕ → ℕ → ℕ → ℕ → ℕ → Answer
accepted flags time csnps before after restart =
    Received
    (record {
      reply = flags;
      time = time;
      ordered = ltb 0 csnps;
      csnps = csnps;
      freed = 0;
      hello = 0;
      timers = record { restart = restart; spf = 0; overload = 0 };
      change = record { level = 0; system = 0x192168001002; before = before; after = after; advertised = eqb after 2 };
    })

-- in the mode Running
abbrev pub received : ℕ → ℕ → ℕ → ℕ → ℕ → Answer
received flags time csnps before after = accepted flags time csnps before after 0

-- ---- C1 to C7: marks and holding time

-- The first row brings the record to UP with expiry 110. C1 to C6 follow, one after another.
abbrev pub rows1to6 : List Row
rows1to6 =
    row 83 1 (0 ∷ 0 ∷ 0 ∷ [])
    ∷ row 100 0 (1 ∷ 0 ∷ 0 ∷ [])
    ∷ row 105 0 (1 ∷ 0 ∷ 0 ∷ [])
    ∷ row 106 0 (0 ∷ 0 ∷ 0 ∷ [])
    ∷ row 110 0 (8 ∷ 0x01 ∷ 0x2C ∷ [])
    ∷ row 120 0 (8 ∷ 0x02 ∷ 0x58 ∷ [])
    ∷ row 130 0 (1 ∷ 0 ∷ 0 ∷ [])
    ∷ []

abbrev pub seen1to6 : List Seen
seen1to6 =
    saw (up 110 Clear) lent_octets (received 0 0 0 0 2)
    ∷ saw (up 127 Restart) (octets 0x02 0x00 0x1B) (received 2 27 3 2 2)
    ∷ saw (up 127 Restart) (octets 0x02 0x00 0x16) (received 2 22 3 2 2)
    ∷ saw (up 133 Clear) lent_octets (received 0 0 0 2 2)
    ∷ saw (up 410 Planned) (octets 0x10 0x01 0x2C) (received 16 300 0 2 2)
    ∷ saw (up 410 Planned) (octets 0x10 0x01 0x22) (received 16 290 0 2 2)
    ∷ saw (up 160 Restart) (octets 0x02 0x00 0x1E) (received 2 30 3 2 2)
    ∷ []

abbrev pub C1toC6 : Type 0
C1toC6 = From (setup (settings Running 10 80)) (λ g. played seen g rows1to6 ≡ seen1to6)

-- C7: no record stands
abbrev pub C7 : Type 0
C7 =
    From (setup (settings Running 10 100))
    (λ g.
    played seen g (row 100 2 (1 ∷ 0 ∷ 0 ∷ []) ∷ [])
    ≡ saw (Some (Init (kept 127))) (octets 0x02 0x00 0x1B) (received 2 27 0 0 1) ∷ [])

-- ---- C8: lengths of the Restart TLV

-- 0; 1 with RA; 2 with PR; 10
abbrev pub bad_values : List (List ℕ)
bad_values = [] ∷ (2 ∷ []) ∷ (8 ∷ 0x01 ∷ []) ∷ replicate 10 0 ∷ []

-- 3 with PR
abbrev pub good_value : List ℕ
good_value = 8 ∷ 0x01 ∷ 0x2C ∷ []

abbrev pub trial : Gateway → List ℕ → Outcome
trial g v = step g (receiving (hello 0 v))

-- Each value is tried on the gateway g, at clock 83, with the record UP and expiry 110. What is refused, 6, brings the octet where the Restart TLV
-- starts, 24, and leaves g as it was.
abbrev pub C8On : Gateway → Type 0
C8On g =
    (map (λ v. seen (trial g v)) (bad_values ++ good_value ∷ [])
    ≡ saw (up 110 Clear) lent_octets (Refused (BadTlv 24))
    ∷ saw (up 110 Clear) lent_octets (Refused (BadTlv 24))
    ∷ saw (up 110 Clear) lent_octets (Refused (BadTlv 24))
    ∷ saw (up 110 Clear) lent_octets (Refused (BadTlv 24))
    ∷ saw (up 383 Planned) (octets 0x10 0x01 0x2C) (received 16 300 0 2 2)
    ∷ [])
    × (map (λ v. number_of (trial g v).answer) bad_values ≡ replicate 4 6)
    × (map (λ v. (trial g v).next) bad_values ≡ replicate 4 g)

abbrev pub C8 : Type 0
C8 = From (setup (settings Running 10 80)) (λ g. C8On (after g (calls_of (row 83 1 (0 ∷ 0 ∷ 0 ∷ []) ∷ []))))

-- ---- C9: T3 while Restarting

abbrev pub timed : Outcome → T3 × Seen
timed o = (o.next.common.timers.t3, seen o)

-- every frame is accepted with no reply, and no timer ends; the record's state before, and UP
abbrev pub goes_on : ℕ → Answer
goes_on before = accepted 0 0 0 before 2 1

-- RA 40, Up; RA 50, Up; RA 20, not Up
abbrev pub C9 : Type 0
C9 =
    From (setup (settings Restarting 10 0))
    (λ g.
    played timed g (row 5 0 (acknowledging 40) ∷ row 10 0 (acknowledging 50) ∷ row 12 1 (acknowledging 20) ∷ [])
    ≡ (Runs 45, saw (up 32 Clear) lent_octets (goes_on 0))
    ∷ (Runs 45, saw (up 37 Clear) lent_octets (goes_on 2))
    ∷ (Runs 45, saw (up 39 Clear) lent_octets (goes_on 2))
    ∷ [])

-- ---- C10: the link metric

-- of a circuit with this configured metric, after a hello with this Reverse Metric TLV that brings the record to UP
abbrev pub Measures : ℕ → ℕ → ℕ → ℕ → Type 0
Measures configured flags offset metric =
    From (setup (settings Running configured 100))
    (λ g. (step (after g (receiving (reversing flags offset) ∷ [])) (At 1 LinkMetric)).answer ≡ Told (Metric metric))

-- 10 + 5; 16,777,210 + 10 without U, with U
abbrev pub C10 : Type 0
C10 =
    Measures 10 0 5 15
    × Measures 16_777_210 0 10 16_777_214
    × Measures 16_777_210 2 10 16_777_215

-- ---- all of them

abbrev pub SampleRuns : Type 0
SampleRuns = C1toC6 × C7 × C8 × C9 × C10
