-- What a record put into a room and a sweep of a room keep: a property of each record, the number of open_places, and one record to a key.
use Prim.Native.Nat.{ℕ, zero, suc, ◌≤◌}
use native.Mathlib.Omega.{arith}
use mathlib.Core.Path.{◌≡◌, refl, ap}
use mathlib.Core.Bool.{Bool, false}
use mathlib.Core.List.{List, [], ◌∷◌}
use lib.ListN.{length}
use lib.Dec.{eqb}
use Rattle.basics.proofs.BoolLaws.{by-test}
use Rattle.basics.specs.declared.kind.CircuitKind.{CircuitKind}
use Rattle.basics.specs.declared.kind.CircuitKind.TheVariants.{Lan, P2p}
use Rattle.adjacency.specs.declared.record.State.{State}
use Rattle.adjacency.specs.declared.record.Key.{Key}
use Rattle.adjacency.specs.declared.record.Record.{Record}
use Rattle.adjacency.specs.Keys.{same_key}
use Rattle.basics.specs.Lists.{tabulate}
use Rattle.adjacency.specs.Place.{is_held}
use Rattle.adjacency.specs.declared.place.Slot.{Slot}
use Rattle.adjacency.specs.declared.place.Slot.TheVariants.{Free, Held, Closed}
use Rattle.room.specs.Table.{record_with, find, has, crowded, replace, insert, put, sweep, empty_place, empty_room}
use Rattle.room.specs.Gather.{gather, rest, keep}
use Rattle.adjacency.proofs.KeysLaws.{same_key-eq}
use Rattle.room.proofs.TableLaws.{gather-sweep, gather-put-same, gather-put-other}
use Rattle.invariants.specs.Invariants.{Each, end, free, held, closed, records, room_for}
use Rattle.std.specs.Prelude.{Some}

-- ---- a property of each record

module _ {P : Record → Type 0} (k : Key) (v : State) (p : P (record_with k v)) where
  each-replace : (t : List Slot) → Each P t → Each P (replace k v t)
  unfolding replace
  each-replace [] end = end
  each-replace (Free ∷ t) (free e) = free (each-replace t e)
  each-replace (Held r ∷ t) (held q e) =
      let z = each-replace t e in
      by-test (same_key k r.key) (λ a. rw a (held p e)) (λ a. rw a (held q z))
  each-replace (Closed ∷ t) (closed e) = closed (each-replace t e)

  each-insert : (t : List Slot) → Each P t → Each P (insert k v t)
  unfolding insert
  each-insert [] end = end
  each-insert (Free ∷ t) (free e) = held p e
  each-insert (Held r ∷ t) (held q e) = held q (each-insert t e)
  each-insert (Closed ∷ t) (closed e) = closed (each-insert t e)

  pub each-put : (t : List Slot) → Each P t → Each P (put k v t)
  unfolding put
  each-put t e = by-test (has k t) (λ a. rw a (each-replace t e)) (λ a. rw a (each-insert t e))

-- of those that a sweep leaves its test is false
pub each-sweep : {P Q : Record → Type 0} (p : State → Bool) → ((r : Record) → p r.state ≡ false → P r → Q r) → (t : List Slot) → Each P t
    → Each Q (sweep p t)
unfolding sweep
each-sweep p f [] end = end
each-sweep p f (Free ∷ t) (free e) = free (each-sweep p f t e)
each-sweep p f (Held r ∷ t) (held q e) =
    let z = each-sweep p f t e in
    by-test (p r.state) (λ a. rw a (free z)) (λ a. rw a (held (f r a q) z))
each-sweep p f (Closed ∷ t) (closed e) = closed (each-sweep p f t e)

pub each_map : {P Q : Record → Type 0} → ((r : Record) → P r → Q r) → (t : List Slot) → Each P t → Each Q t
each_map f [] end = end
each_map f (Free ∷ t) (free e) = free (each_map f t e)
each_map f (Held r ∷ t) (held q e) = held (f r q) (each_map f t e)
each_map f (Closed ∷ t) (closed e) = closed (each_map f t e)

pub each-find : (P : State → Type 0) (k : Key) (s : State) (t : List Slot) → Each (λ r. P r.state) t → find k t ≡ Some s → P s
unfolding find
each-find P k s [] end e = absurd (let z : ◌≡◌ {A = ℕ} 0 1 = cc in omega arith)
each-find P k s (Free ∷ t) (free h) e = each-find P k s t h e
each-find P k s (Held r ∷ t) (held q h) e =
    by-test (same_key k r.key) (λ a. let z : r.state ≡ s = cc in rw (← z) q) (λ a. each-find P k s t h (rw a at e))
each-find P k s (Closed ∷ t) (closed h) e = each-find P k s t h e

-- ---- no record

abbrev pub NoRecords : List Slot → Type 0
NoRecords t = Each (λ r. ⊥) t

pub no-records-each : {P : Record → Type 0} (t : List Slot) → NoRecords t → Each P t
no-records-each t e = each_map (λ r x. absurd x) t e

pub no-records-records : (t : List Slot) → NoRecords t → records t ≡ 0
unfolding records
no-records-records [] end = refl
no-records-records (Free ∷ t) (free e) = no-records-records t e
no-records-records (Held r ∷ t) (held q e) = absurd q
no-records-records (Closed ∷ t) (closed e) = no-records-records t e

pub no-records-gather : (k : Key) (t : List Slot) → NoRecords t → gather k t ≡ []
unfolding gather
no-records-gather k [] end = refl
no-records-gather k (Free ∷ t) (free e) = no-records-gather k t e
no-records-gather k (Held r ∷ t) (held q e) = absurd q
no-records-gather k (Closed ∷ t) (closed e) = no-records-gather k t e

no-records-tabulate : (f : ℕ → Slot) → ((i : ℕ) → is_held (f i) ≡ false) → (n : ℕ) → NoRecords (tabulate f n)
no-records-tabulate f h zero = end
no-records-tabulate f h (suc n) = by (f zero) (h zero) (no-records-tabulate (λ i. f (suc i)) (λ i. h (suc i)) n)
  where
    by : (s : Slot) → is_held s ≡ false → {t : List Slot} → NoRecords t → NoRecords (s ∷ t)
    by Free e b = free b
    by (Held r) e b = absurd (let z : ◌≡◌ {A = ℕ} 0 1 = cc in omega arith)
    by Closed e b = closed b

place-no-records : (kind : CircuitKind) (i : ℕ) → is_held (empty_place kind i) ≡ false
place-no-records Lan i = refl
place-no-records P2p i = by-test (eqb i 0) (λ a. rw a refl) (λ a. rw a refl)

pub empty-no-records : (kind : CircuitKind) → NoRecords (empty_room kind)
unfolding empty_room
empty-no-records kind = no-records-tabulate (empty_place kind) (place-no-records kind) 16

-- ---- the open_places that are not closed

unfoldable pub open_places : List Slot → ℕ
open_places [] = 0
open_places (Free ∷ t) = suc (open_places t)
open_places (Held r ∷ t) = suc (open_places t)
open_places (Closed ∷ t) = open_places t

pub records-places : (t : List Slot) → records t ≤ open_places t
unfolding records open_places
records-places [] = omega arith
records-places (Free ∷ t) = omega (arith, records-places t)
records-places (Held r ∷ t) = omega (arith, records-places t)
records-places (Closed ∷ t) = records-places t

pub empty-places : (kind : CircuitKind) → open_places (empty_room kind) ≡ room_for kind
unfolding empty_room open_places
empty-places Lan = refl
empty-places P2p = refl

module _ (k : Key) (v : State) where
  places-replace : (t : List Slot) → open_places (replace k v t) ≡ open_places t
  unfolding open_places replace
  places-replace [] = refl
  places-replace (Free ∷ t) = ap suc (places-replace t)
  places-replace (Held r ∷ t) = let z = places-replace t in by-test (same_key k r.key) (λ a. cc) (λ a. cc)
  places-replace (Closed ∷ t) = places-replace t

  places-insert : (t : List Slot) → open_places (insert k v t) ≡ open_places t
  unfolding open_places insert
  places-insert [] = refl
  places-insert (Free ∷ t) = refl
  places-insert (Held r ∷ t) = ap suc (places-insert t)
  places-insert (Closed ∷ t) = places-insert t

  pub places-put : (t : List Slot) → open_places (put k v t) ≡ open_places t
  unfolding put
  places-put t = by-test (has k t) (λ a. rw a (places-replace t)) (λ a. rw a (places-insert t))

pub places-sweep : (p : State → Bool) (t : List Slot) → open_places (sweep p t) ≡ open_places t
unfolding open_places sweep
places-sweep p [] = refl
places-sweep p (Free ∷ t) = ap suc (places-sweep p t)
places-sweep p (Held r ∷ t) = let z = places-sweep p t in by-test (p r.state) (λ a. cc) (λ a. cc)
places-sweep p (Closed ∷ t) = places-sweep p t

-- ---- one record to a key

length-keep : (p : State → Bool) (l : List State) → length (keep p l) ≤ length l
unfolding keep
length-keep p [] = omega arith
length-keep p (s ∷ l) =
    let z = length-keep p l in by-test (p s) (λ a. rw a (omega arith)) (λ a. rw a (omega arith))

length_rest : (v : State) (l : List State) → length l ≤ 1 → length (v ∷ rest l) ≤ 1
unfolding rest
length_rest v [] h = omega arith
length_rest v (s ∷ l) h = h

module _ (t : List Slot) (h : (k : Key) → length (gather k t) ≤ 1) (k : Key) where
  pub single-sweep : (p : State → Bool) → length (gather k (sweep p t)) ≤ 1
  single-sweep p = rw (gather-sweep p k t) (omega (arith, length-keep p (gather k t), h k))

  pub single-put : (j : Key) (v : State) → crowded j t ≡ false → length (gather k (put j v t)) ≤ 1
  single-put j v c =
      by-test (same_key k j)
      (λ a. let e : k ≡ j = same_key-eq k j a in rw (e, gather-put-same j v t c) (length_rest v (gather j t) (h j)))
      (λ a. rw (gather-put-other k j v t a) (h k))
