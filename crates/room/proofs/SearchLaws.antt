-- The laws of a search: the answer of the whole is that of what is left, and what an answer says of the room.
use Prim.Native.Nat.{ℕ, zero, suc, ◌<◌, ◌≤◌}
use Rattle.std.specs.Option.{MatchOption, unwrap_or}
use Rattle.std.specs.Prelude.{Option, Some, None}
use native.Mathlib.Omega.{arith}
use mathlib.Core.Path.{◌≡◌, refl, ap, sym, ◌∙◌}
use mathlib.Core.Bool.{Bool, true, false}
use mathlib.Core.List.{List, [], ◌∷◌}
use lib.ListN.{length, get_or, drop, drop_of_length-le}
use lib.Seq.{drop-cons}
use Rattle.std.specs.Bool.{MatchBool}
use Rattle.std.specs.List.{range_with_len, HoldsAt, AllWithin}
use Rattle.std.proofs.Common.{subst, zero-add}
use Rattle.std.proofs.lemmas.List.FromFn.{get_or-range_with_len}
use Rattle.std.proofs.lemmas.List.Recursion.{or_at, or_from_places}
use Rattle.slots.specs.Slots.{places}
use Rattle.basics.proofs.BoolLaws.{by-test}
use Rattle.adjacency.specs.declared.record.Key.{Key}
use Rattle.adjacency.specs.Place.{is_held, has_key}
use Rattle.adjacency.specs.Keys.{same_key}
use Rattle.adjacency.specs.declared.place.Slot.{Slot}
use Rattle.adjacency.specs.declared.place.Slot.TheVariants.{Free, Held, Closed}
use Rattle.room.specs.Table.{find, first_state}
use Rattle.basics.specs.Lists.{some}
use Rattle.room.specs.Place.{first_of, state_in}
use Rattle.std.specs.Prelude.{None}

-- a test of some place, as a loop goes through them: it is met at place i, and past the end by none
module _ (p : Slot → Bool) (t : List Slot) (i : ℕ) where
  pub any_here : i < length t → p (get_or t i Free) ≡ true → some p (drop i t) ≡ true
  unfolding some
  any_here lt e = rw (drop-cons t i Free lt) (rw e refl)

  pub any_none : length t ≤ i → some p (drop i t) ≡ false
  unfolding some
  any_none le = rw (drop_of_length-le t le) refl

pub first-true : (p : Slot → Bool) (t : List Slot) → first_of p t < length t → p (get_or t (first_of p t) Free) ≡ true
first-true p [] l = absurd (omega arith)
first-true p (s ∷ t) l =
    let go = first-true p t in
    by-test (p s) (λ q. rw q q) (λ q. let m : suc (first_of p t) < suc (length t) = rw q at l in rw q (go (omega (arith, m))))

-- the record with a key is the one at its place, and the first record at the first that is held; past the end none stands

pub find_at : (k : Key) (t : List Slot) → find k t ≡ state_in (get_or t (first_of (has_key k) t) Free)
unfolding find
find_at k [] = refl
find_at k (Free ∷ t) = find_at k t
find_at k (Held r ∷ t) = let h = find_at k t in by-test (same_key k r.key) (λ q. rw q refl) (λ q. rw q h)
find_at k (Closed ∷ t) = find_at k t

pub first-at : (t : List Slot) → first_state t ≡ state_in (get_or t (first_of is_held t) Free)
unfolding first_state
first-at [] = refl
first-at (Free ∷ t) = first-at t
first-at (Held r ∷ t) = refl
first-at (Closed ∷ t) = first-at t

key-held : (k : Key) (s : Slot) → has_key k s ≡ true → is_held s ≡ true
key-held k Free e = e
key-held k (Held r) e = refl
key-held k Closed e = e

pub key-stands : (k : Key) (t : List Slot) → first_of (has_key k) t < length t → is_held (get_or t (first_of (has_key k) t) Free) ≡ true
key-stands k t l = key-held k (get_or t (first_of (has_key k) t) Free) (first-true (has_key k) t l)

-- what `find` and `any` over the places have answered

first-is : (p : Slot → Bool) (t : List Slot) (i : ℕ) → i < length t → p (get_or t i Free) ≡ true → ((k : ℕ) → k < i → p (get_or t k Free) ≡ false)
    → i ≡ first_of p t
first-is p [] i lt e h = absurd (omega arith)
first-is p (s ∷ t) zero lt e h = rw e refl
first-is p (s ∷ t) (suc i) lt e h =
    let go : i ≡ first_of p t = first-is p t i (omega arith) e (λ k l. h (suc k) (omega arith)) in
    let skip : p s ≡ false = h 0 (omega arith) in
    rw skip (ap suc go)

first-past : (p : Slot → Bool) (t : List Slot) → ((k : ℕ) → k < length t → p (get_or t k Free) ≡ false) → length t ≡ first_of p t
first-past p [] h = refl
first-past p (s ∷ t) h =
    let go : length t ≡ first_of p t = first-past p t (λ k l. h (suc k) (omega arith)) in
    let skip : p s ≡ false = h 0 (omega arith) in
    rw skip (ap suc go)

abbrev all : List ℕ
all = range_with_len 0 places

-- what `any` has answered over the places, by what true and false say of one
abbrev pub AnyOf : (ℕ → Type 0) → (ℕ → Type 0) → Bool → Type 0
AnyOf Yes No r = MatchBool r ((k : ℕ) × (k < length all) × HoldsAt Yes all k) (AllWithin No all 0 (length all))

at : (P : ℕ → Type 0) (k : ℕ) → k < places → HoldsAt P all k → P k
at P k l h = subst P (get_or-range_with_len 0 places k 0 l ∙ zero-add k) (h 0)

abbrev pub Found : (Slot → Bool) → List Slot → ℕ → Type 0
Found p t i = p (get_or t i Free) ≡ true

abbrev pub Passed : (Slot → Bool) → List Slot → ℕ → Type 0
Passed p t i = p (get_or t i Free) ≡ false

module _ (p : Slot → Bool) (t : List Slot) (len : length t ≡ places) where
  pub first_found : (r : Option ℕ)
      → MatchOption r ((k : ℕ) → 0 ≤ k → k < places → Passed p t k) (λ i. (0 ≤ i) × (i < places) × Found p t i × ((k : ℕ) → 0 ≤ k → k < i → Passed p t k))
      → unwrap_or r places ≡ first_of p t
  first_found None h = sym len ∙ first-past p t (λ k l. h k (omega arith) (omega arith))
  first_found (Some i) h = first-is p t i (omega arith) h.2 (λ k l. h.3 k (omega arith) l)

  pub none_found : (No : ℕ → Type 0) → ((k : ℕ) → k < places → No k → Passed p t k) → AllWithin No all 0 (length all) → some p t ≡ false
  unfolding some
  none_found No told h =
      or_from_places (some p) p refl (λ _ _. refl) t Free
      (λ k l. let lt : k < places = omega (arith, len, l) in told k lt (at No k lt (λ d. h k d (omega arith) lt)))

  pub any_found : (r : Bool) → AnyOf (Found p t) (Passed p t) r → r ≡ some p t
  unfolding some
  any_found true h = sym (or_at (some p) p refl (λ _ _. refl) t h.0 Free (omega (arith, len, h.1)) (at (Found p t) h.0 h.1 h.2))
  any_found false h = sym (none_found (Passed p t) (λ k l e. e) h)
