-- The states of all records with a key, in the order of their places: what laws and claims about a room speak of. No code does.
use Rattle.std.specs.Prelude.{Bool, true, false, cond, List, [], ◌∷◌, Option, Some, None}
use Rattle.adjacency.specs.declared.record.State.{State}
use Rattle.adjacency.specs.declared.record.Key.{Key}
use Rattle.adjacency.specs.Keys.{same_key}
use Rattle.adjacency.specs.declared.place.Slot.{Slot}
use Rattle.adjacency.specs.declared.place.Slot.TheVariants.{Free, Held, Closed}

unfoldable pub gather : Key → List Slot → List State
gather k [] = []
gather k (Free ∷ t) = gather k t
gather k (Held r ∷ t) = cond (same_key k r.key) (r.state ∷ gather k t) (gather k t)
gather k (Closed ∷ t) = gather k t

unfoldable pub first : List State → Option State
first [] = None
first (s ∷ l) = Some s

unfoldable pub filled : List State → Bool
filled [] = false
filled (s ∷ l) = true

unfoldable pub rest : List State → List State
rest [] = []
rest (s ∷ l) = l

-- those of which the test is false
unfoldable pub keep : (State → Bool) → List State → List State
keep p [] = []
keep p (s ∷ l) = cond (p s) (keep p l) (s ∷ keep p l)
