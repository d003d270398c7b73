-- The word of a record's small fields (house): what any word means, and the word that a state is stored as.
use Rattle.std.specs.Prelude.{ℕ, ◌+◌, ◌*◌, ◌/◌, ◌%◌, ◌<◌, cond, eqb, Option, Some, None}
use Rattle.basics.specs.Bits.{bit_of}
use Rattle.adjacency.specs.declared.record.Mark.{Mark}
use Rattle.adjacency.specs.declared.record.Mark.TheVariants.{Clear, Restart, Planned}
use Rattle.adjacency.specs.declared.record.Last.{Last}
use Rattle.adjacency.specs.declared.record.Data.{Data}
use Rattle.adjacency.specs.declared.record.State.{State}
use Rattle.adjacency.specs.declared.record.State.TheVariants.{Init, Up}
use Rattle.hello.specs.declared.reverse.ReverseMetric.{ReverseMetric}

-- what a word means: any word does

abbrev pub reverse_at : ℕ → Option ReverseMetric
reverse_at w =
    cond (eqb (w / 64 % 2) 1)
    (Some (record { offset = w / 4294967296 % 4294967296; whole = eqb (w / 16777216 % 2) 1; unreachable = eqb (w / 33554432 % 2) 1 }))
    None

abbrev pub last_at : ℕ → Last
last_at w = record { priority = w / 65536 % 256; tlv = eqb (w / 32 % 2) 1; reverse = reverse_at w }

abbrev pub data_at : ℕ → ℕ → Data
data_at expiry w = record { expiry = expiry; suppressed = eqb (w / 16 % 2) 1; last = last_at w }

abbrev pub mark_at : ℕ → Mark
mark_at w = cond (eqb (w / 4 % 4) 0) Clear (cond (eqb (w / 4 % 4) 1) Restart Planned)

abbrev pub state_at : ℕ → ℕ → State
state_at expiry w = cond (eqb (w % 4) 1) (Init (data_at expiry w)) (Up (data_at expiry w) (mark_at w))

-- the word of a state

abbrev pub reverse_word : Option ReverseMetric → ℕ
reverse_word None = 0
reverse_word (Some r) = 64 + 16777216 * bit_of r.whole + 33554432 * bit_of r.unreachable + 4294967296 * r.offset

abbrev pub last_word : Last → ℕ
last_word l = reverse_word l.reverse + 32 * bit_of l.tlv + 65536 * l.priority

abbrev pub data_word : Data → ℕ
data_word d = last_word d.last + 16 * bit_of d.suppressed

abbrev pub mark_word : Mark → ℕ
mark_word Clear = 0
mark_word Restart = 4
mark_word Planned = 8

abbrev pub state_word : State → ℕ
state_word (Init d) = 1 + data_word d
state_word (Up d m) = 2 + mark_word m + data_word d

-- the fields are as small as their types

abbrev pub FitReverse : Option ReverseMetric → Type 0
FitReverse None = Unit {0}
FitReverse (Some r) = r.offset < 4294967296

abbrev pub FitLast : Last → Type 0
FitLast l = (l.priority < 256) × FitReverse l.reverse

abbrev pub FitData : Data → Type 0
FitData d = FitLast d.last

abbrev pub FitState : State → Type 0
FitState (Init d) = FitData d
FitState (Up d m) = FitData d
