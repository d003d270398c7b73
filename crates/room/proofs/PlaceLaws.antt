-- The place that a key's record takes: each answer of place_of is one law.
use Prim.Native.Nat.{suc, ◌<◌, ◌≤◌}
use mathlib.Core.Path.{◌≡◌, refl, ap, ◌∙◌}
use mathlib.Core.Bool.{true, false}
use mathlib.Core.List.{List, [], ◌∷◌}
use native.Mathlib.Omega.{arith}
use lib.ListN.{length, get_or, set, get_or-eq_default}
use Rattle.slots.specs.Slots.{places}
use Rattle.basics.proofs.BoolLaws.{by-test}
use Rattle.adjacency.specs.declared.record.State.{State}
use Rattle.adjacency.specs.declared.record.Key.{Key}
use Rattle.adjacency.specs.declared.record.Record.{Record}
use Rattle.adjacency.specs.Place.{is_free, has_key}
use Rattle.adjacency.specs.declared.place.Slot.{Slot}
use Rattle.adjacency.specs.declared.place.Slot.TheVariants.{Free, Held, Closed}
use Rattle.room.specs.Table.{record_with, has, full, crowded, replace, insert, put}
use Rattle.room.specs.Place.{first_of, state_in, Placed}
use Rattle.room.proofs.SearchLaws.{find_at}
use Rattle.std.specs.Prelude.{Some, None}

-- what is put is put at the first place with the key, or at the first free one

replaces : (k : Key) (v : State) (t : List Slot) → replace k v t ≡ set t (first_of (has_key k) t) (Held (record_with k v))
unfolding replace
replaces k v [] = refl
replaces k v (s ∷ t) = let h = ap (λ (l : List Slot). s ∷ l) (replaces k v t) in by-test (has_key k s) (λ q. rw q refl) (λ q. rw q h)

inserts : (k : Key) (v : State) (t : List Slot) → insert k v t ≡ set t (first_of is_free t) (Held (record_with k v))
unfolding insert
inserts k v [] = refl
inserts k v (Free ∷ t) = refl
inserts k v (Held r ∷ t) = ap (λ (l : List Slot). Held r ∷ l) (inserts k v t)
inserts k v (Closed ∷ t) = ap (λ (l : List Slot). Closed ∷ l) (inserts k v t)

-- whether there is such a place

has-key : (k : Key) (t : List Slot) → first_of (has_key k) t < length t → has k t ≡ true
unfolding has
has-key k [] l = absurd (omega arith)
has-key k (s ∷ t) l =
    let go = has-key k t in
    by-test (has_key k s) (λ q. rw q refl) (λ q. let m : suc (first_of (has_key k) t) < suc (length t) = rw q at l in rw q (go (omega (arith, m))))

no_key : (k : Key) (t : List Slot) → length t ≤ first_of (has_key k) t → has k t ≡ false
unfolding has
no_key k [] l = refl
no_key k (s ∷ t) l =
    let go = no_key k t in
    by-test (has_key k s) (λ q. let m : suc (length t) ≤ 0 = rw q at l in absurd (omega (arith, m)))
    (λ q. let m : suc (length t) ≤ suc (first_of (has_key k) t) = rw q at l in rw q (go (omega (arith, m))))

some-free : (t : List Slot) → first_of is_free t < length t → full t ≡ false
unfolding full
some-free [] l = absurd (omega arith)
some-free (Free ∷ t) l = refl
some-free (Held r ∷ t) l = some-free t (omega (arith, l))
some-free (Closed ∷ t) l = some-free t (omega (arith, l))

none_free : (t : List Slot) → length t ≤ first_of is_free t → full t ≡ true
unfolding full
none_free [] l = refl
none_free (Free ∷ t) l = absurd (omega (arith, l))
none_free (Held r ∷ t) l = none_free t (omega (arith, l))
none_free (Closed ∷ t) l = none_free t (omega (arith, l))

module _ (k : Key) (t : List Slot) (len : length t ≡ places) where
  -- the key's record stands at its place
  pub stands : (r : Record) → first_of (has_key k) t < places → get_or t (first_of (has_key k) t) Free ≡ Held r
      → Placed k t (record { before = Some r.state; at = first_of (has_key k) t })
  unfolding put crowded
  stands r l g =
      let y : has k t ≡ true = has-key k t (omega (arith, len, l)) in
      record {
        found = find_at k t ∙ ap state_in g;
        spot =
            record {
              takes = λ m. record { below = l; room = by-test (full t) (λ q. cc) (λ q. cc); puts = λ v. let z = replaces k v t in cc };
              none = λ m. absurd (omega (arith, l, m));
            };
      }

  -- no record has the key: the first free place, or refusal 9
  pub lacks : places ≤ first_of (has_key k) t → Placed k t (record { before = None; at = first_of is_free t })
  unfolding put crowded
  lacks l =
      let n : has k t ≡ false = no_key k t (omega (arith, len, l)) in
      record {
        found = find_at k t ∙ ap state_in (get_or-eq_default t Free (omega (arith, len, l)));
        spot =
            record {
              takes = λ m.
                  let f : full t ≡ false = some-free t (omega (arith, len, m)) in
                  record { below = m; room = cc; puts = λ v. let z = inserts k v t in cc };
              none = λ m. let f : full t ≡ true = none_free t (omega (arith, len, m)) in cc;
            };
      }
