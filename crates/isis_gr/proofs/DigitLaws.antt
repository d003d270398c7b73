-- The parts of a word can be read back: the lowest octet is document 01's number of the answer, 0 where the call was done, and each part
-- stands in digits of its own. Nothing cites these; they are for whoever unpacks a word.
use Prim.Native.Nat.{ℕ, ◌/◌, ◌%◌, ◌^◌, ◌<◌, ◌≤◌}
use native.Mathlib.Omega.{arith}
use native.Mathlib.Nat.{pow-suc}
use mathlib.Core.Path.{◌≡◌, refl, subst}
use mathlib.Core.Bool.{Bool}
use mathlib.Core.List.{List, [], ◌∷◌}
use lib.ListN.{length}
use Rattle.basics.proofs.BitLaws.{bit_le}
use Rattle.basics.specs.Bits.{bit_of}
use Rattle.basics.specs.Mask.{circuits, t1_places}
use Rattle.basics.specs.declared.levels.Levels.{Levels}
use Rattle.basics.specs.declared.refusal.Refusal.{Refusal}
use Rattle.basics.specs.declared.refusal.Refusal.TheVariants.{NoCircuit, ReplyRoom, NotHello, BadLength, TlvPastEnd, BadTlv, WrongSource, WrongNeighbor, NoRoom, ClockBack, NotRestarting, BadSetting, NotBegun, TooLong}
use Rattle.restart_tlv.specs.declared.writer.Ack.TheVariants.{Restart as RA, Planned as PA}
use Rattle.adjacency.specs.Record.{phase_of, mark_of}
use Rattle.adjacency.specs.declared.record.Mark.{Mark}
use Rattle.adjacency.specs.declared.record.Mark.TheVariants.{Clear as Unmarked, Restart, Planned}
use Rattle.adjacency.specs.declared.record.Phase.{Phase}
use Rattle.adjacency.specs.declared.record.Phase.TheVariants.{Gone, Init as InitPhase, Up as UpPhase}
use Rattle.adjacency.specs.declared.record.State.{State}
use Rattle.timer_parts.specs.declared.t1.Freed.{Freed}
use Rattle.timer_parts.specs.declared.t1.Freed.TheVariants.{Kept, Stopped, Reinitialise}
use Rattle.timers.specs.Hellos.{Hellos}
use Rattle.timers.specs.declared.outcome.TimerOutcome.{TimerOutcome}
use Rattle.timers.specs.declared.outcome.TimerOutcome.TheVariants.{Idle, Goes, Ended}
use Rattle.timers.specs.declared.outcome.Overload.{Overload}
use Rattle.timers.specs.declared.outcome.Overload.TheVariants.{Quiet, Set, Clear, Both}
use Rattle.model.specs.declared.answers.Change.{Change}
use Rattle.model.specs.declared.answers.Orders.{Orders}
use Rattle.model.specs.Numbers.{refusal_no, reply_flags, levels_no, csnps_no, freed_no, overload_no, mark_no, phase_no, state_no}
use Rattle.model.specs.Answers.{Answer, Refused, Received, Ticked, Told, Fact, Done, Noticed, Looked, Metric, HelloFlags, Waits, TimersAnswer, FrameAnswer, RecordAnswer, number_of, timers_answer, change_answer, frame_answer, state_answer, last_of}
use Rattle.own_words.specs.Setup.{Begun}
use Rattle.isis_gr.specs.Words.{mask_no, timers_no, change_no, answer_no, report_no, record_no}
use Rattle.std.specs.Prelude.{Option, Some, None}
use Rattle.restart_tlv.specs.declared.writer.Ack.{Ack}

-- ---- the range of each part

refusal-below : (x : Refusal) → refusal_no x < 256
refusal-below NoCircuit = omega arith
refusal-below ReplyRoom = omega arith
refusal-below NotHello = omega arith
refusal-below BadLength = omega arith
refusal-below (TlvPastEnd position) = omega arith
refusal-below (BadTlv position) = omega arith
refusal-below WrongSource = omega arith
refusal-below WrongNeighbor = omega arith
refusal-below NoRoom = omega arith
refusal-below ClockBack = omega arith
refusal-below NotRestarting = omega arith
refusal-below BadSetting = omega arith
refusal-below NotBegun = omega arith
refusal-below TooLong = omega arith

levels-le : (l : Levels) → levels_no l ≤ 3
levels-le l = omega (arith, bit_le l.one, bit_le l.two)

flags-below : (a : Option (Ack × ℕ)) → reply_flags a < 256
flags-below None = omega arith
flags-below (Some (RA, time)) = omega arith
flags-below (Some (PA, time)) = omega arith

csnps-below : (c : Option Levels) → csnps_no c < 256
csnps-below None = omega arith
csnps-below (Some l) = omega (arith, levels-le l)

freed-below : (f : Freed) → freed_no f < 256
freed-below Kept = omega arith
freed-below Stopped = omega arith
freed-below Reinitialise = omega arith

overload-le : (o : Overload) → overload_no o ≤ 3
overload-le Quiet = omega arith
overload-le Set = omega arith
overload-le Clear = omega arith
overload-le Both = omega arith

mark-le : (m : Mark) → mark_no m ≤ 2
mark-le Unmarked = omega arith
mark-le Restart = omega arith
mark-le Planned = omega arith

phase-le : (p : Phase) → phase_no p ≤ 2
phase-le Gone = omega arith
phase-le InitPhase = omega arith
phase-le UpPhase = omega arith

state-le : (s : State) → state_no s ≤ 2
state-le s = phase-le (phase_of (Some s))

-- ---- the parts

fact-code : (f : Fact) → answer_no (Told f) % 256 ≡ 0
fact-code Done = refl
fact-code (Noticed t) = omega arith
fact-code (Looked r) = omega arith
fact-code (Metric n) = omega arith
fact-code (HelloFlags flags) = omega arith
fact-code (Waits count some lowest) = omega arith

-- of every word; a refusal's is its number alone
pub code : (a : Answer) → answer_no a % 256 ≡ number_of a
code (Refused x) = omega (arith, refusal-below x)
code (Received f) = omega arith
code (Ticked lost hellos t) = omega arith
code (Told f) = fact-code f

pub code-refused : (x : Refusal) → answer_no (Refused x) ≡ refusal_no x
code-refused x = refl

-- the timers' digits
pub record Timed (word : ℕ) (t : TimersAnswer) : Type 0 where
  pub restart : word % 4 ≡ t.restart
  pub spf : word / 4 % 4 ≡ t.spf
  pub overload : word / 16 ≡ t.overload
  pub below : word < 256

pub timers-parts : (o : TimerOutcome) → Timed (timers_no (timers_answer o)) (timers_answer o)
timers-parts Idle = record { restart = refl; spf = refl; overload = refl; below = omega arith }
timers-parts (Goes spf overload) =
    let a = levels-le spf in
    let b = overload-le overload in
    record { restart = omega arith; spf = omega arith; overload = omega arith; below = omega arith }
timers-parts (Ended spf overload) =
    let a = levels-le spf in
    let b = overload-le overload in
    record { restart = omega arith; spf = omega arith; overload = omega arith; below = omega arith }

module _ (o : Orders) where
  abbrev told : FrameAnswer
  told = frame_answer o

  abbrev word : ℕ
  word = answer_no (Received told)

  -- a Remaining Time is two octets
  pub received-parts : told.time < 2 ^ 16 → (word / 2 ^ 8 % 256 ≡ told.reply) × (word / 2 ^ 16 % 256 ≡ told.csnps)
      × (word / 2 ^ 24 % 256 ≡ told.freed) × (word / 2 ^ 32 % 256 ≡ timers_no told.timers) × (word / 2 ^ 40 % 2 ^ 16 ≡ told.time)
      × (word / 2 ^ 56 ≡ told.hello)
  received-parts h =
      let a = flags-below o.reply in
      let b = csnps-below o.csnps in
      let c = freed-below o.freed in
      let d : timers_no told.timers < 256 = (timers-parts o.outcome).below in
      (omega arith, omega arith, omega arith, omega arith, omega arith, omega arith)

-- the frame's second word
pub change-parts : (x : Change) → x.system < 2 ^ 48 → x.level ≤ 2
    → let w = change_no (change_answer x) in
    (w % 2 ^ 48 ≡ x.system) × (w / 2 ^ 48 % 4 ≡ x.level) × (w / 2 ^ 50 % 4 ≡ phase_no x.before) × (w / 2 ^ 52 % 4 ≡ phase_no x.after)
    × (w / 2 ^ 54 ≡ bit_of x.advertised)
change-parts x hs hl =
    let a = phase-le x.before in
    let b = phase-le x.after in
    let c = bit_le x.advertised in
    (omega arith, omega arith, omega arith, omega arith, omega arith)

mask_below : (l : List Bool) → mask_no l < 2 ^ length l
unfolding mask_no
mask_below [] = omega arith
mask_below (b ∷ l) = omega (arith, pow-suc 2 (length l), bit_le b, mask_below l)

mask-within : (n : ℕ) (l : List Bool) → length l ≡ n → mask_no l < 2 ^ n
mask-within n l e = subst (λ (k : ℕ). mask_no l < 2 ^ k) e (mask_below l)

module _ (lost : List Bool) (hellos : Hellos) (o : TimerOutcome) (lm : length lost ≡ circuits) (lh : length hellos.t1s ≡ t1_places) where
  abbrev ticked : ℕ
  ticked = answer_no (Ticked lost hellos (timers_answer o))

  pub ticked-parts : (ticked / 2 ^ 8 % 256 ≡ mask_no lost) × (ticked / 2 ^ 16 % 2 ^ 16 ≡ mask_no hellos.t1s)
      × (ticked / 2 ^ 32 % 256 ≡ timers_no (timers_answer o)) × (ticked / 2 ^ 40 ≡ hellos.flags)
  ticked-parts =
      let a = mask-within circuits lost lm in
      let b = mask-within t1_places hellos.t1s lh in
      let c : timers_no (timers_answer o) < 256 = (timers-parts o).below in
      (omega arith, omega arith, omega arith, omega arith)

-- setup's word
pub set-up-parts : (hellos : Hellos) → length hellos.t1s ≡ t1_places
    → (report_no (Begun hellos) % 256 ≡ 0) × (report_no (Begun hellos) / 2 ^ 8 % 2 ^ 16 ≡ mask_no hellos.t1s) × (report_no (Begun hellos) / 2 ^ 24 ≡ hellos.flags)
set-up-parts hellos e = let a = mask-within t1_places hellos.t1s e in (omega arith, omega arith, omega arith)

-- a look up's word, and the second of the two words that it writes (the first is the expiry)
module _ (s : State) (shown : Bool) (low : (last_of s).priority < 256) where
  abbrev found : RecordAnswer
  found = state_answer s shown

  abbrev looked : ℕ
  looked = answer_no (Told (Looked found))

  abbrev data' : ℕ
  data' = record_no found

  pub looked-parts : (looked / 2 ^ 8 % 256 ≡ found.state) × (looked / 2 ^ 16 ≡ bit_of found.advertised)
  looked-parts = let a = state-le s in (omega arith, omega arith)

  pub found-parts : (data' % 4 ≡ found.mark) × (data' / 4 % 2 ≡ bit_of found.suppressed) × (data' / 8 % 2 ≡ bit_of found.tlv)
      × (data' / 16 % 2 ≡ bit_of found.reversed) × (data' / 32 % 2 ≡ bit_of found.whole) × (data' / 64 % 2 ≡ bit_of found.unreachable)
      × (data' / 2 ^ 8 % 256 ≡ found.priority) × (data' / 2 ^ 32 ≡ found.offset)
  found-parts =
      let a = mark-le (mark_of (Some s)) in
      let b = bit_le found.suppressed in
      let c = bit_le found.tlv in
      let d = bit_le found.reversed in
      let e = bit_le found.whole in
      let f = bit_le found.unreachable in
      (omega arith, omega arith, omega arith, omega arith, omega arith, omega arith, omega arith, omega arith)

-- the T1s that run: at most all of them
pub waiting-parts : (count : ℕ) (some : Bool) (lowest : ℕ) → count < 256
    → let w = answer_no (Told (Waits count some lowest)) in
    (w / 2 ^ 8 % 256 ≡ count) × (w / 2 ^ 16 ≡ lowest)
waiting-parts count some lowest h = (omega arith, omega arith)
