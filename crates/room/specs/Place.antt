-- What the code's searches answer: the first place that is asked for, and the place that a key's record takes.
use Rattle.std.specs.Prelude.{ℕ, suc, ◌<◌, ◌≤◌, ◌≡◌, Bool, true, false, cond, List, [], ◌∷◌, set, Option, Some, None}
use Rattle.slots.specs.Slots.{places}
use Rattle.adjacency.specs.declared.record.State.{State}
use Rattle.adjacency.specs.declared.record.Key.{Key}
use Rattle.adjacency.specs.declared.place.Slot.{Slot}
use Rattle.adjacency.specs.declared.place.Slot.TheVariants.{Free, Held, Closed}
use Rattle.room.specs.Table.{record_with, find, put, crowded}
use Rattle.room.specs.declared.place.Place.{Place}

-- how many places come before the first of which the test is true: its number from 0, or the number of all where there is none
abbrev pub first_of : (Slot → Bool) → List Slot → ℕ
first_of p [] = 0
first_of p (s ∷ t) = cond (p s) 0 (suc (first_of p t))

-- the state of the record at a place
abbrev pub state_in : Slot → Option State
state_in Free = None
state_in (Held r) = Some r.state
state_in Closed = None

-- the key's record is, or would be, at i
pub record Takes (k : Key) (t : List Slot) (i : ℕ) : Type 0 where
  pub below : i < places
  pub room : crowded k t ≡ false
  pub puts : (v : State) → put k v t ≡ set t i (Held (record_with k v))

-- a place of the room, or none
pub record Spots (k : Key) (t : List Slot) (i : ℕ) : Type 0 where
  pub takes : i < places → Takes k t i
  pub none : places ≤ i → crowded k t ≡ true

pub record Placed (k : Key) (t : List Slot) (p : Place) : Type 0 where
  pub found : find k t ≡ p.before
  pub spot : Spots k t p.at
