-- The T1s that circuits have: their masks fit, the levels that they serve are those enabled, and in the place of a circuit's T1 at a level stands the
-- one that serves that level there.
use Prim.Native.Nat.{ℕ, suc, ◌+◌, ◌*◌, ◌/◌, ◌%◌, ◌^◌, ◌<◌, ◌≤◌}
use native.Mathlib.Nat.{pow-suc}
use native.Mathlib.Omega.{arith}
use mathlib.Core.Path.{◌≡◌, refl, ap, ◌∙◌}
use mathlib.Core.Bool.{Bool, true, false, not, ◌&&◌, ◌||◌}
use mathlib.Core.List.{List, [], ◌∷◌}
use lib.Dec.{eqb}
use lib.ListN.{length, get_or}
use borrow.Author.Tests.{eq-eqb, ne_eqb, eqb-true, eqb-false}
use Rattle.basics.specs.Bits.{bit_of}
use Rattle.basics.specs.Levels.{Level, First, Second, level_no, is_on, levels_with, some_on, has_level}
use Rattle.basics.specs.Lists.{some}
use Rattle.basics.specs.Mask.{circuits, t1_places, place_bits}
use Rattle.basics.specs.declared.kind.CircuitKind.{CircuitKind}
use Rattle.basics.specs.declared.kind.CircuitKind.TheVariants.{Lan, P2p}
use Rattle.basics.specs.declared.levels.Levels.{Levels}
use Rattle.basics.proofs.BitLaws.{bit-lt}
use Rattle.basics.proofs.BoolLaws.{by-test, both}
use Rattle.basics.proofs.MaskLaws.{double, get_or-or, get_or-past, packed, packed-at}
use Rattle.settings.specs.Serving.{t1_place, serving_with, serving, serves_of, all_t1s, levels_served, served_at}
use Rattle.settings.specs.Settings.{enabled_levels}
use Rattle.settings.specs.declared.circuit.Circuit.{Circuit}
use Rattle.settings.specs.declared.serving.Serving.{Serving}

-- ---- two digits for each circuit

with-below : (k : CircuitKind) (l : Levels) (v : Serving) (n : ℕ) → (v.one < n) × (v.two < n)
    → ((serving_with k l v).one < 4 * n) × ((serving_with k l v).two < 4 * n)
unfolding serving_with
with-below Lan l v n h = let a = bit-lt l.one in let b = bit-lt l.two in (omega (arith, h.0, a), omega (arith, h.1, b))
with-below P2p l v n h = let a = bit-lt l.one in let b = bit-lt l.two in (omega (arith, h.0, a), omega (arith, h.1, b))

pub serving-below : (cs : List Circuit) → ((serving cs).one < 2 ^ (2 * length cs)) × ((serving cs).two < 2 ^ (2 * length cs))
unfolding serving
serving-below [] = (omega arith, omega arith)
serving-below (c ∷ cs) =
    let n = length cs in
    let d : 2 * suc n ≡ suc (suc (2 * n)) = omega arith in
    let e : 2 ^ (2 * suc n) ≡ 4 * 2 ^ (2 * n) = rw (d, pow-suc 2 (suc (2 * n)), pow-suc 2 (2 * n)) (omega arith) in
    let h = with-below c.kind c.levels (serving cs) (2 ^ (2 * n)) (serving-below cs) in
    (omega (arith, h.0, e), omega (arith, h.1, e))

-- ---- the levels

module _ (n : ℕ) where
  low : (b : Bool) → not (eqb (bit_of b + 4 * n) 0) ≡ (b || not (eqb n 0))
  low true = rw (ne_eqb (1 + 4 * n) 0 (λ (q : 1 + 4 * n ≡ 0). omega arith)) refl
  low false =
      by-test (eqb n 0) (λ e. let z : n ≡ 0 = eqb-true n 0 e in rw (e, eq-eqb (0 + 4 * n) 0 (omega arith)) refl)
      (λ e. let z = eqb-false n 0 e in rw (e, ne_eqb (0 + 4 * n) 0 (λ (q : 0 + 4 * n ≡ 0). omega arith)) refl)

  high : (b : Bool) → not (eqb (2 * bit_of b + 4 * n) 0) ≡ (b || not (eqb n 0))
  high true = rw (ne_eqb (2 + 4 * n) 0 (λ (q : 2 + 4 * n ≡ 0). omega arith)) refl
  high false = low false

one-with : (k : CircuitKind) (l : Levels) (v : Serving) → not (eqb (serving_with k l v).one 0) ≡ (l.one || not (eqb v.one 0))
unfolding serving_with
one-with Lan l v = low v.one l.one
one-with P2p l v = low v.one l.one

two-with : (k : CircuitKind) (l : Levels) (v : Serving) → not (eqb (serving_with k l v).two 0) ≡ (l.two || not (eqb v.two 0))
unfolding serving_with
two-with Lan l v = high v.two l.two
two-with P2p l v = low v.two l.two

ones-enabled : (cs : List Circuit) → not (eqb (serving cs).one 0) ≡ some (λ c. c.levels.one) cs
unfolding serving some
ones-enabled [] = refl
ones-enabled (c ∷ cs) = one-with c.kind c.levels (serving cs) ∙ ap (λ (b : Bool). c.levels.one || b) (ones-enabled cs)

twos-enabled : (cs : List Circuit) → not (eqb (serving cs).two 0) ≡ some (λ c. c.levels.two) cs
unfolding serving some
twos-enabled [] = refl
twos-enabled (c ∷ cs) = two-with c.kind c.levels (serving cs) ∙ ap (λ (b : Bool). c.levels.two || b) (twos-enabled cs)

pub served-enabled : (cs : List Circuit) → levels_served (serving cs) ≡ enabled_levels cs
unfolding enabled_levels
served-enabled cs = rw (ones-enabled cs, twos-enabled cs) refl

-- ---- the places

-- a circuit's two digits in the mask of a level
abbrev digits_of : Level → CircuitKind → Levels → ℕ
digits_of First kind l = bit_of l.one
digits_of Second Lan l = 2 * bit_of l.two
digits_of Second P2p l = bit_of l.two

digits-below : (k : Level) (kind : CircuitKind) (l : Levels) → digits_of k kind l < 4
digits-below First kind l = omega (arith, bit-lt l.one)
digits-below Second Lan l = omega (arith, bit-lt l.two)
digits-below Second P2p l = omega (arith, bit-lt l.two)

serves-with : (k : Level) (kind : CircuitKind) (l : Levels) (v : Serving) → serves_of k (serving_with kind l v) ≡ digits_of k kind l + 4 * serves_of k v
unfolding serving_with
serves-with First Lan l v = refl
serves-with First P2p l v = refl
serves-with Second Lan l v = refl
serves-with Second P2p l v = refl

abbrev digits_in : Level → Circuit → ℕ
digits_in k c = digits_of k c.kind c.levels

serves-none : (k : Level) → serves_of k (serving []) ≡ 0
unfolding serving
serves-none First = refl
serves-none Second = refl

serves-packed : (k : Level) (cs : List Circuit) → serves_of k (serving cs) ≡ packed (digits_in k) cs
unfolding serving packed
serves-packed k [] = serves-none k
serves-packed k (c ∷ cs) =
    serves-with k c.kind c.levels (serving cs) ∙ ap (λ (n : ℕ). digits_in k c + 4 * n) (serves-packed k cs)

-- a digit read back, in the first place and in the second
low_first : (b : Bool) → eqb (bit_of b % 2) 1 ≡ b
low_first true = refl
low_first false = refl

low_second : (b : Bool) → eqb (bit_of b / 2) 1 ≡ false
low_second true = refl
low_second false = refl

high-first : (b : Bool) → eqb (2 * bit_of b % 2) 1 ≡ false
high-first true = refl
high-first false = refl

high-second : (b : Bool) → eqb (2 * bit_of b / 2) 1 ≡ b
high-second true = refl
high-second false = refl

-- of circuit i, counted from 0, of at most eight
module _ (cs : List Circuit) (few : length cs ≤ circuits) (i : ℕ) (there : i < length cs) (d : Circuit) where
  digits-at : (k : Level)
      → (get_or (place_bits (serves_of k (serving cs))) (2 * i) false ≡ eqb (digits_in k (get_or cs i d) % 2) 1)
      × (get_or (place_bits (serves_of k (serving cs))) (2 * i + 1) false ≡ eqb (digits_in k (get_or cs i d) / 2) 1)
  unfolding double
  digits-at k = rw (serves-packed k cs) (packed-at (digits_in k) (λ c. digits-below k c.kind c.levels) d circuits cs i there few)

  -- document 02, W-202: "Each LAN circuit now holds a T1 .. per level": in the place of a level it serves that level alone, where it is enabled, and
  -- else there is none
  pub served-lan : (get_or cs i d).kind ≡ Lan → (k : Level)
      → served_at (serving cs) (t1_place Lan i (level_no k)) ≡ levels_with (λ j. eqb (level_no k) (level_no j) && is_on j (get_or cs i d).levels)
  unfolding served_at
  served-lan e First =
      let l = (get_or cs i d).levels in
      rw ((digits-at First).0, (digits-at Second).0, e, low_first l.one, high-first l.two) refl
  served-lan e Second =
      let l = (get_or cs i d).levels in
      rw ((digits-at First).1, (digits-at Second).1, e, low_second l.one, high-second l.two) refl

  -- "P2P keeps one of each": it serves all levels of the circuit
  pub served-p2p : (get_or cs i d).kind ≡ P2p → (level : ℕ) → served_at (serving cs) (t1_place P2p i level) ≡ (get_or cs i d).levels
  unfolding served_at
  served-p2p e level =
      let l = (get_or cs i d).levels in
      rw ((digits-at First).0, (digits-at Second).0, e, low_first l.one, low_first l.two) refl

  -- .. and in the second place there is none
  pub served-once : (get_or cs i d).kind ≡ P2p → served_at (serving cs) (2 * i + 1) ≡ record { one = false; two = false }
  unfolding served_at
  served-once e =
      let l = (get_or cs i d).levels in
      rw ((digits-at First).1, (digits-at Second).1, e, low_second l.one, low_second l.two) refl

-- past the circuits there is none
pub served-past : (cs : List Circuit) (i : ℕ) → 2 * length cs ≤ i → served_at (serving cs) i ≡ record { one = false; two = false }
unfolding served_at
served-past cs i le =
    let h = serving-below cs in
    rw (get_or-past (2 * length cs) t1_places (serving cs).one i h.0 le, get_or-past (2 * length cs) t1_places (serving cs).two i h.1 le) refl

-- ---- where there is a T1

-- it serves some level
pub t1-serves : (v : Serving) (i : ℕ) → get_or (place_bits (all_t1s v)) i false ≡ some_on (served_at v i)
unfolding served_at
t1-serves v i = get_or-or t1_places v.one v.two i

level-named : (l : Levels) (n : ℕ) → has_level l n ≡ true → (k : Level) × (n ≡ level_no k)
level-named l n e =
    by-test (eqb n 1) (λ a. (First, eqb-true n 1 a))
    (λ a. (Second, eqb-true n 2 (both (eqb n 2) l.two (rw a at e)).0))

module _ (cs : List Circuit) (few : length cs ≤ circuits) (i : ℕ) (there : i < length cs) (d : Circuit) where
  -- on a LAN for each level that is enabled on it
  pub t1-lan : (get_or cs i d).kind ≡ Lan → (level : ℕ) → has_level (get_or cs i d).levels level ≡ true
      → get_or (place_bits (all_t1s (serving cs))) (t1_place Lan i level) false ≡ true
  t1-lan e level on =
      let z = level-named (get_or cs i d).levels level on in
      let h : has_level (get_or cs i d).levels (level_no z.0) ≡ true = rw z.1 at on in
      rw (z.1, t1-serves (serving cs) (t1_place Lan i (level_no z.0)), served-lan cs few i there d e z.0) h

  -- on P2P where it has a level
  pub t1-p2p : (get_or cs i d).kind ≡ P2p → (level : ℕ) → some_on (get_or cs i d).levels ≡ true
      → get_or (place_bits (all_t1s (serving cs))) (t1_place P2p i level) false ≡ true
  t1-p2p e level on = rw (t1-serves (serving cs) (t1_place P2p i level), served-p2p cs few i there d e level) on
