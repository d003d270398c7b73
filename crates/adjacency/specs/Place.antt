-- A place of a circuit's room, and which records go (document 01, "What the gateway holds" and "Marks and holding time").
use Rattle.std.specs.Prelude.{ℕ, Bool, true, false, leb}
use Rattle.adjacency.specs.Record.{expiry_of}
use Rattle.adjacency.specs.Keys.{same_key}
use Rattle.adjacency.specs.Duty.{outranks}
use Rattle.adjacency.specs.declared.duty.Rank.{Rank}
use Rattle.adjacency.specs.declared.record.Mark.{Mark}
use Rattle.adjacency.specs.declared.record.Mark.TheVariants.{Clear, Restart, Planned}
use Rattle.adjacency.specs.declared.record.State.{State}
use Rattle.adjacency.specs.declared.record.State.TheVariants.{Init, Up}
use Rattle.adjacency.specs.declared.record.Key.{Key}
use Rattle.adjacency.specs.declared.place.Slot.{Slot}
use Rattle.adjacency.specs.declared.place.Slot.TheVariants.{Free, Held, Closed}

-- ---- which records go

-- "A tick removes each record with expiry at or below the clock"
abbrev pub expired_by : ℕ → State → Bool
expired_by clock s = leb (expiry_of s) clock

-- "Release removes a circuit's Planned records."
abbrev pub marks_planned : Mark → Bool
marks_planned Clear = false
marks_planned Restart = false
marks_planned Planned = true

abbrev pub planned_state : State → Bool
planned_state (Init d) = false
planned_state (Up d m) = marks_planned m

-- ---- what is asked of a place

abbrev pub is_free : Slot → Bool
is_free Free = true
is_free (Held r) = false
is_free Closed = false

abbrev pub is_held : Slot → Bool
is_held Free = false
is_held (Held r) = true
is_held Closed = false

abbrev pub has_key : Key → Slot → Bool
has_key k Free = false
has_key k (Held r) = same_key k r.key
has_key k Closed = false

-- a record stands there, and the test is true of its state
abbrev pub meets : (State → Bool) → Slot → Bool
meets p Free = false
meets p (Held r) = p r.state
meets p Closed = false

-- .. its router has the CSNP duty before us
abbrev pub outranked_at : Rank → Slot → Bool
outranked_at rank Free = false
outranked_at rank (Held r) = outranks rank r
outranked_at rank Closed = false
