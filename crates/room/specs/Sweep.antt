-- What a sweep of a room does (document 01, "Marks and holding time").
use Rattle.std.specs.Prelude.{ℕ, ◌≡◌, ◌<◌, Bool, List, length, get_or}
use Rattle.std.specs.Borrow.{Bor}
use Rattle.adjacency.specs.declared.record.State.{State}
use Rattle.adjacency.specs.Place.{meets}
use Rattle.adjacency.specs.declared.place.Slot.{Slot}
use Rattle.adjacency.specs.declared.place.Slot.TheVariants.{Free}
use Rattle.slots.specs.Slots.{table_of, room_words, places}
use Rattle.room.specs.Table.{sweep}
use Rattle.basics.specs.Lists.{some}

-- asked of place i of a room's words, it answers whether a record stands there of whose state the test is true
abbrev pub Tells : (Bor (List ℕ) → ℕ → Bool → Type 0) → (State → Bool) → Type 0
Tells answers test =
    (ws : Bor (List ℕ)) (i : ℕ) (r : Bool) → length ws.now ≡ room_words → i < places → answers ws i r
    → r ≡ meets test (get_or (table_of ws.now) i Free)

-- t is what stood before, t' what is left, r whether any record went
pub record Sweeps (p : State → Bool) (t t' : List Slot) (r : Bool) : Type 0 where
  pub any : r ≡ some (meets p) t
  pub left : t' ≡ sweep p t
