-- A circuit's room: 16 places, in which records are found by key, kept and removed (document 01, "What the gateway holds" and
-- "Marks and holding time").
use Rattle.std.specs.Prelude.{ℕ, Bool, true, false, not, cond, ◌&&◌, ◌||◌, List, [], ◌∷◌, map, eqb, Option, Some, None}
use Rattle.slots.specs.Slots.{places}
use Rattle.basics.specs.Lists.{some, tabulate}
use Rattle.basics.specs.declared.kind.CircuitKind.{CircuitKind}
use Rattle.basics.specs.declared.kind.CircuitKind.TheVariants.{Lan, P2p}
use Rattle.adjacency.specs.declared.duty.Rank.{Rank}
use Rattle.adjacency.specs.declared.record.State.{State}
use Rattle.adjacency.specs.declared.record.Key.{Key}
use Rattle.adjacency.specs.declared.record.Record.{Record}
use Rattle.adjacency.specs.Place.{is_free, has_key, meets, expired_by, planned_state, outranked_at}
use Rattle.adjacency.specs.Keys.{same_key}
use Rattle.adjacency.specs.declared.place.Slot.{Slot}
use Rattle.adjacency.specs.declared.place.Slot.TheVariants.{Free, Held, Closed}

abbrev pub record_with : Key → State → Record
record_with k v = record { key = k; state = v }

-- the state of the record with this key, if one stands
unfoldable pub find : Key → List Slot → Option State
find k [] = None
find k (Free ∷ t) = find k t
find k (Held r ∷ t) = cond (same_key k r.key) (Some r.state) (find k t)
find k (Closed ∷ t) = find k t

-- some record has this key
unfoldable pub has : Key → List Slot → Bool
has k [] = false
has k (s ∷ t) = has_key k s || has k t

-- no place is free
unfoldable pub full : List Slot → Bool
full [] = true
full (s ∷ t) = not (is_free s) && full t

-- refusal 9 (document 01, "Refusals by number"): the circuit's room is full and no record has the frame's key
unfoldable pub crowded : Key → List Slot → Bool
crowded k t = full t && not (has k t)

-- the record with this key, in its place, given the state
unfoldable pub replace : Key → State → List Slot → List Slot
replace k v [] = []
replace k v (s ∷ t) = cond (has_key k s) (Held (record_with k v) ∷ t) (s ∷ replace k v t)

-- a new record, in the first free place: room freed is used again
unfoldable pub insert : Key → State → List Slot → List Slot
insert k v [] = []
insert k v (Free ∷ t) = Held (record_with k v) ∷ t
insert k v (Held r ∷ t) = Held r ∷ insert k v t
insert k v (Closed ∷ t) = Closed ∷ insert k v t

unfoldable pub put : Key → State → List Slot → List Slot
put k v t = cond (has k t) (replace k v t) (insert k v t)

-- the place without its record where the test is true of it
abbrev pub swept_place : (State → Bool) → Slot → Slot
swept_place p s = cond (meets p s) Free s

unfoldable pub sweep : (State → Bool) → List Slot → List Slot
sweep p t = map (swept_place p) t

-- a tick removes each record with expiry at or below the clock ..
abbrev pub expired : ℕ → List Slot → List Slot
expired clock t = sweep (expired_by clock) t

-- .. and marks its circuit in the answer
abbrev pub any_expired : ℕ → List Slot → Bool
any_expired clock t = some (meets (expired_by clock)) t

-- release removes a circuit's Planned records
abbrev pub released : List Slot → List Slot
released t = sweep planned_state t

-- some other router has the CSNP duty before us
abbrev pub any_outranks : Rank → List Slot → Bool
any_outranks rank t = some (outranked_at rank) t

-- the state of the first record
unfoldable pub first_state : List Slot → Option State
first_state [] = None
first_state (Free ∷ t) = first_state t
first_state (Held r ∷ t) = Some r.state
first_state (Closed ∷ t) = first_state t

-- a LAN circuit has room for 16 records, a P2P circuit for 1
abbrev pub empty_place : CircuitKind → ℕ → Slot
empty_place Lan i = Free
empty_place P2p i = cond (eqb i 0) Free Closed

unfoldable pub empty_room : CircuitKind → List Slot
empty_room kind = tabulate (empty_place kind) places
