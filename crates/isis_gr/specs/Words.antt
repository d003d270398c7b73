-- Each answer as one word, which crosses to C (house): where the parts of an answer stand in it. The parts' own numbers are those of model's
-- table. The lowest octet of every word is the code: 0 where the call was done, else the refusal's number; no other code exists.
use Rattle.std.specs.Prelude.{ℕ, ◌+◌, ◌*◌, ◌/◌, ◌%◌, ◌^◌, Bool, cond, List, [], ◌∷◌, eqb, ltb}
use Rattle.basics.specs.Bits.{bit_of}
use Rattle.basics.specs.declared.kind.CircuitKind.{CircuitKind}
use Rattle.basics.specs.declared.kind.CircuitKind.TheVariants.{Lan, P2p}
use Rattle.basics.specs.declared.levels.Levels.{Levels}
use Rattle.settings.specs.declared.mode.Mode.{Mode}
use Rattle.settings.specs.declared.mode.Mode.TheVariants.{Running, Restarting, Starting}
use Rattle.model.specs.Answers.{Answer, Refused, Received, Ticked, Told, Fact, Done, Noticed, Looked, Metric, HelloFlags, Waits, TimersAnswer, ChangeAnswer, FrameAnswer, RecordAnswer}
use Rattle.model.specs.Numbers.{refusal_no, position_no}
use Rattle.own_words.specs.Setup.{Report, Refused as RefusedReport, Begun}

-- ---- the parts

-- a mask over circuits or over places, the lowest digit for circuit 1
unfoldable pub mask_no : List Bool → ℕ
mask_no [] = 0
mask_no (b ∷ bs) = bit_of b + 2 * mask_no bs

-- the timers: two digits for the restart, two for the SPF's levels, two for overload
abbrev pub timers_no : TimersAnswer → ℕ
timers_no t = t.restart + 4 * t.spf + 16 * t.overload

-- an accepted frame; levels 0 tell that there is nothing to order, whether or not line 1 gave an order
abbrev pub frame_no : FrameAnswer → ℕ
frame_no f = 2 ^ 8 * f.reply + 2 ^ 16 * f.csnps + 2 ^ 24 * f.freed + 2 ^ 32 * timers_no f.timers + 2 ^ 40 * f.time + 2 ^ 56 * f.hello

abbrev pub fact_no : Fact → ℕ
fact_no Done = 0
fact_no (Noticed t) = 2 ^ 32 * timers_no t
fact_no (Looked r) = 2 ^ 8 * r.state + 2 ^ 16 * bit_of r.advertised
fact_no (Metric n) = 2 ^ 32 * n
fact_no (HelloFlags flags) = 2 ^ 8 * flags
fact_no (Waits count some lowest) = 2 ^ 8 * count + 2 ^ 16 * lowest

-- ---- the answers

-- "A refusal returns its number only"; a position stands in the second word
abbrev pub answer_no : Answer → ℕ
answer_no (Refused x) = refusal_no x
answer_no (Received f) = frame_no f
answer_no (Ticked lost hellos t) = 2 ^ 8 * mask_no lost + 2 ^ 16 * mask_no hellos.t1s + 2 ^ 32 * timers_no t + 2 ^ 40 * hellos.flags
answer_no (Told f) = fact_no f

-- the record of an accepted frame: its System ID, its level, its state before and after, whether it is advertised
abbrev pub change_no : ChangeAnswer → ℕ
change_no x = x.system % 2 ^ 48 + 2 ^ 48 * (x.level % 4 + 4 * x.before + 16 * x.after + 64 * bit_of x.advertised)

-- a frame's second word: its record; of a refused one the position that the refusal brings, 0 where it brings none
abbrev pub changed_no : Answer → ℕ
changed_no (Refused x) = position_no x
changed_no (Received f) = change_no f.change
changed_no (Ticked lost hellos t) = 0
changed_no (Told f) = 0

-- setup
abbrev pub report_no : Report → ℕ
report_no (RefusedReport n) = n
report_no (Begun hellos) = 2 ^ 8 * mask_no hellos.t1s + 2 ^ 24 * hellos.flags

-- ---- what a look up writes

-- a reverse metric; 0 where there is none
abbrev pub reverse_no : Bool → ℕ → Bool → Bool → ℕ
reverse_no reversed offset whole unreachable = 16 * bit_of reversed + 32 * bit_of whole + 64 * bit_of unreachable + 2 ^ 32 * offset

-- what is told of a record beside its expiry
abbrev pub record_no : RecordAnswer → ℕ
record_no r =
    r.mark + 4 * bit_of r.suppressed + 8 * bit_of r.tlv + 2 ^ 8 * r.priority
    + reverse_no r.reversed r.offset r.whole r.unreachable

abbrev pub record_words : RecordAnswer → List ℕ
record_words r = r.expiry ∷ record_no r ∷ []

-- the two words of a record that was found; they stay as they were where none was
abbrev pub found_words : Answer → List ℕ → List ℕ
found_words (Refused x) ws = ws
found_words (Received f) ws = ws
found_words (Ticked lost hellos t) ws = ws
found_words (Told Done) ws = ws
found_words (Told (Noticed t)) ws = ws
found_words (Told (Looked r)) ws = cond (eqb r.state 0) ws (record_words r)
found_words (Told (Metric n)) ws = ws
found_words (Told (HelloFlags flags)) ws = ws
found_words (Told (Waits count some lowest)) ws = ws

-- ---- what is given to setup

-- 0 Running, 1 Restarting, 2 Starting
abbrev pub mode_of : ℕ → Mode
mode_of n = cond (eqb n 1) Restarting (cond (eqb n 2) Starting Running)

abbrev pub mode_known : ℕ → Bool
mode_known n = ltb n 3

-- 0 LAN, 1 P2P; a number that is not known counts as a LAN where it is not looked at
abbrev pub kind_of : ℕ → CircuitKind
kind_of n = cond (eqb n 1) P2p Lan

abbrev pub kind_known : ℕ → Bool
kind_known n = ltb n 2

-- 1, 2, or 3 for both, by the two low digits; 0, no level, is out of range
abbrev pub levels_of : ℕ → Levels
levels_of n = record { one = eqb (n % 2) 1; two = eqb (n / 2 % 2) 1 }

abbrev pub levels_known : ℕ → Bool
levels_known n = ltb n 4
