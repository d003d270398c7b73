-- The laws of the faults: the search circuit by circuit, and that none is told exactly where setup is not refused.
use Prim.Native.Nat.{ℕ, zero, suc, ◌+◌, ◌*◌, ◌≤◌, ◌<◌}
use native.Mathlib.Omega.{arith}
use native.Mathlib.Numerals.{add-one}
use mathlib.Core.Path.{◌≡◌, refl, ap, sym, ◌∙◌}
use mathlib.Core.Bool.{Bool, true, false, ◌&&◌}
use mathlib.Core.List.{List, [], ◌∷◌, map}
use lib.ListN.{length, take, drop, drop_of_length-le}
use lib.Seq.{drop-cons, get_or-take, length-take-le}
use lib.Dec.{eqb, leb}
use borrow.Author.Tests.{eqb-false, eq-eqb, ne_eqb, le-ltb, lt-leb}
use Rattle.basics.specs.Octets.{octet, big}
use Rattle.basics.specs.Mask.{circuits}
use Rattle.basics.specs.Levels.{some_on}
use Rattle.basics.specs.Lists.{every}
use Rattle.basics.proofs.BoolLaws.{by-test, both, and_right, and-false, and-true}
use Rattle.basics.proofs.ListLaws.{get_or-tabulate, length-tabulate}
use Rattle.settings.proofs.SettingsLaws.{between-true}
use Rattle.settings.specs.Settings.{between, circuit_ok, lengths_ok, settings_ok}
use Rattle.isis_gr.specs.Words.{mode_known, kind_known, levels_of, levels_known}
use Rattle.isis_gr.specs.Settings.{layout, circuit_place, circuit_places, circuit_from, circuit_known, settings_from, settings_known}
use Rattle.isis_gr.specs.Faults.{or_else, circuit_fault, circuits_fault, whole_fault, fault_of, FaultsTell}

-- ---- the search

module _ (s : List ℕ) (count i : ℕ) (le : count ≤ circuits) where
  abbrev places : List ℕ
  places = take count circuit_places

  length-places : length places ≡ count
  length-places = length-take-le count circuit_places (omega (arith, length-tabulate circuit_place circuits))

  pub faults-end : count ≤ i → circuits_fault s (drop i places) (i + 1) ≡ 0
  unfolding circuits_fault
  faults-end h = let l : length places ≤ i = omega (arith, length-places) in rw (drop_of_length-le places l) refl

  module _ (lt : i < count) where
    opened : drop i places ≡ circuit_place i ∷ drop (i + 1) places
    opened =
        drop-cons places i 0 (omega (arith, length-places))
        ∙ ap (λ (a : ℕ). a ∷ drop (suc i) places) (get_or-take count circuit_places i 0 lt ∙ get_or-tabulate circuit_place circuits i 0 (omega arith))
        ∙ ap (λ (n : ℕ). circuit_place i ∷ drop n places) (sym (add-one i))

    pub faults-skip : circuit_fault s (circuit_place i) ≡ 0 → circuits_fault s (drop i places) (i + 1) ≡ circuits_fault s (drop (i + 1) places) (i + 1 + 1)
    unfolding circuits_fault
    faults-skip e = rw (opened, eq-eqb _ 0 e) (ap (circuits_fault s (drop (i + 1) places)) (sym (add-one (i + 1))))

    pub faults-here : (circuit_fault s (circuit_place i) ≡ 0 → ⊥) → circuits_fault s (drop i places) (i + 1) ≡ circuit_fault s (circuit_place i) + 256 * (i + 1)
    unfolding circuits_fault
    faults-here e = rw (opened, ne_eqb _ 0 e) refl

-- ---- the code's tests, one after another

module _ (s : List ℕ) (a : ℕ) {kind levels priority hold metric : Bool} {l p h m x₂ x₃ x₄ x₅ r : ℕ} where
  pub circuit-fault-is : kind ≡ kind_known (octet s a) → l ≡ octet s (a + 1) → levels ≡ between 1 l 3 → p ≡ octet s (a + 8) → priority ≡ between 0 p 127
      → h ≡ big 2 s (a + 9) → hold ≡ between 1 h 65535 → m ≡ big 4 s (a + 11) → metric ≡ between 0 m 16777214
      → x₅ ≡ or_else metric 11 0 → x₄ ≡ or_else hold 10 x₅ → x₃ ≡ or_else priority 9 x₄ → x₂ ≡ or_else levels 8 x₃ → r ≡ or_else kind 7 x₂
      → r ≡ circuit_fault s a
  unfolding circuit_fault
  circuit-fault-is k le l' pe p' he h' me m' e₅ e₄ e₃ e₂ e = rw (← le, ← pe, ← he, ← me, ← k, ← l', ← p', ← h', ← m', ← e₅, ← e₄, ← e₃, ← e₂) e

module _ (s : List ℕ) {one two tries mode count : Bool} {t₁ t₂ n c x₂ x₃ x₄ x₅ r : ℕ} where
  pub whole-fault-is : t₁ ≡ big 2 s 6 → one ≡ between 1 t₁ 65535 → t₂ ≡ big 2 s 8 → two ≡ between 1 t₂ 65535 → n ≡ octet s 10 → tries ≡ between 1 n 255
      → mode ≡ mode_known (octet s 15) → c ≡ octet s 16 → count ≡ between 1 c circuits
      → x₅ ≡ or_else count 6 0 → x₄ ≡ or_else mode 5 x₅ → x₃ ≡ or_else tries 4 x₄ → x₂ ≡ or_else two 3 x₃ → r ≡ or_else one 2 x₂
      → r ≡ whole_fault s
  unfolding whole_fault
  whole-fault-is oe o te t ne n' m ce c' e₅ e₄ e₃ e₂ e = rw (← oe, ← te, ← ne, ← ce, ← o, ← t, ← n', ← m, ← c', ← e₅, ← e₄, ← e₃, ← e₂) e

-- ---- no fault is told exactly where setup is not refused

levels-known : (n : ℕ) → between 1 n 3 ≡ (levels_known n && some_on (levels_of n))
levels-known zero = refl
levels-known (suc zero) = refl
levels-known (suc (suc zero)) = refl
levels-known (suc (suc (suc zero))) = refl
levels-known (suc (suc (suc (suc n)))) =
    let m = suc (suc (suc (suc n))) in
    rw (le-ltb m 4 (omega arith), lt-leb m 3 (omega arith)) (and-false (leb 1 m))

module _ (s : List ℕ) where
  circuit-fine : (a : ℕ) → eqb (circuit_fault s a) 0 ≡ (circuit_known s a && circuit_ok (circuit_from s a))
  unfolding circuit_fault circuit_ok circuit_from
  circuit-fine a =
      by-test (kind_known (octet s a))
      (λ k. by-test (levels_known (octet s (a + 1)))
      (λ l. by-test (some_on (levels_of (octet s (a + 1))))
      (λ o. by-test (between 0 (octet s (a + 8)) 127)
      (λ p. by-test (between 1 (big 2 s (a + 9)) 65535)
      (λ h. by-test (between 0 (big 4 s (a + 11)) 16777214)
      (λ m. rw (levels-known (octet s (a + 1)), k, l, o, p, h, m) refl)
      (λ m. rw (levels-known (octet s (a + 1)), k, l, o, p, h, m) refl))
      (λ h. rw (levels-known (octet s (a + 1)), k, l, o, p, h) refl))
      (λ p. rw (levels-known (octet s (a + 1)), k, l, o, p) refl))
      (λ o. rw (levels-known (octet s (a + 1)), k, l, o) refl))
      (λ l. rw (levels-known (octet s (a + 1)), k, l) refl))
      (λ k. rw k refl)

  both_true : (a b x y : Bool) → (a && b) ≡ true → ((a && x) && (b && y)) ≡ (x && y)
  both_true a b x y e = rw ((both a b e).0, (both a b e).1) refl

  both_false : (a b x y : Bool) → (a && b) ≡ false → ((a && x) && (b && y)) ≡ false
  both_false false b x y e = refl
  both_false true b x y e = rw e (and-false x)

  circuits-fine : (as' : List ℕ) (n : ℕ) → eqb (circuits_fault s as' n) 0 ≡ (every (circuit_known s) as' && every circuit_ok (map (circuit_from s) as'))
  unfolding circuits_fault every
  circuits-fine [] n = refl
  circuits-fine (a ∷ as') n =
      let rest = circuits-fine as' (suc n) in
      let k = circuit_known s a in
      let o = circuit_ok (circuit_from s a) in
      let x = every (circuit_known s) as' in
      let y = every circuit_ok (map (circuit_from s) as') in
      by-test (eqb (circuit_fault s a) 0) (λ e. rw e (rest ∙ sym (both_true k o x y (sym (circuit-fine a) ∙ e))))
      (λ e.
      let some : circuit_fault s a + 256 * n ≡ 0 → ⊥ = λ z. eqb-false (circuit_fault s a) 0 e (omega arith) in
      rw e (ne_eqb (circuit_fault s a + 256 * n) 0 some ∙ sym (both_false k o x y (sym (circuit-fine a) ∙ e))))

  take-map : (f : ℕ → Rattle.settings.specs.declared.circuit.Circuit.Circuit) (n : ℕ) (l : List ℕ) → take n (map f l) ≡ map f (take n l)
  take-map f zero l = refl
  take-map f (suc n) [] = refl
  take-map f (suc n) (x ∷ l) = ap (λ t. f x ∷ t) (take-map f n l)

  all-fine : eqb (circuits_fault s (take (octet s 16) circuit_places) 1) 0
      ≡ (every (circuit_known s) (take (octet s 16) circuit_places) && every circuit_ok (take (octet s 16) (map (circuit_from s) circuit_places)))
  all-fine =
      circuits-fine (take (octet s 16) circuit_places) 1
      ∙ ap (λ cs. every (circuit_known s) (take (octet s 16) circuit_places) && every circuit_ok cs) (sym (take-map (circuit_from s) (octet s 16) circuit_places))

  -- the other settings
  whole-fine : eqb (whole_fault s) 0 ≡ (lengths_ok (settings_from s).lengths && (mode_known (octet s 15) && between 1 (octet s 16) circuits))
  unfolding whole_fault lengths_ok settings_from
  whole-fine =
      by-test (between 1 (big 2 s 6) 65535)
      (λ a. by-test (between 1 (big 2 s 8) 65535)
      (λ b. by-test (between 1 (octet s 10) 255)
      (λ c. by-test (mode_known (octet s 15))
      (λ m. by-test (between 1 (octet s 16) circuits) (λ n. rw (a, b, c, m, n) refl) (λ n. rw (a, b, c, m, n) refl)) (λ m. rw (a, b, c, m) refl))
      (λ c. rw (a, b, c) refl))
      (λ b. rw (a, b) refl))
      (λ a. rw a refl)

ordered : (l m n k o : Bool) → (l && (m && n)) ≡ true → (k && o) ≡ ((m && k) && (n && (o && l)))
ordered true true true k o e = ap (λ x. k && x) (sym (and-true o))
ordered true true false k o e = cc
ordered true false n k o e = cc
ordered false m n k o e = cc

refused : (l m n k o : Bool) → (l && (m && n)) ≡ false → false ≡ ((m && k) && (n && (o && l)))
refused l false n k o e = refl
refused l true false k o e = sym (and-false k)
refused true true true k o e = cc
refused false true true k o e = sym (ap (λ x. k && x) (and-false o) ∙ and-false k)

pub faults-tell : FaultsTell
unfolding fault_of settings_known settings_ok settings_from
faults-tell version s =
    let l = lengths_ok (settings_from s).lengths in
    let m = mode_known (octet s 15) in
    let n = between 1 (octet s 16) circuits in
    let k = every (circuit_known s) (take (octet s 16) circuit_places) in
    let o = every circuit_ok (take (octet s 16) (map (circuit_from s) circuit_places)) in
    by-test (eqb version layout)
    (λ v. by-test (eqb (whole_fault s) 0)
    (λ w. rw (v, w) (all-fine s ∙ ordered l m n k o (sym (whole-fine s) ∙ w)))
    (λ w. rw (v, w, w) (refused l m n k o (sym (whole-fine s) ∙ w))))
    (λ v. rw v refl)

-- ---- the call's own stages

module _ (version : ℕ) (s : List ℕ) where
  pub fault-version : (version ≡ layout → ⊥) → 1 ≡ fault_of version s
  unfolding fault_of
  fault-version e = rw (ne_eqb version layout e) refl

  pub fault-whole : {w : ℕ} → version ≡ layout → w ≡ whole_fault s → (w ≡ 0 → ⊥) → w ≡ fault_of version s
  unfolding fault_of
  fault-whole e q n = rw (eq-eqb version layout e, ← q, ne_eqb _ 0 n) refl

  pub fault-circuits : {w r count : ℕ} → version ≡ layout → w ≡ whole_fault s → w ≡ 0 → count ≡ octet s 16
      → r ≡ circuits_fault s (take count circuit_places) 1 → r ≡ fault_of version s
  unfolding fault_of
  fault-circuits e q n c f = rw (eq-eqb version layout e, eq-eqb (whole_fault s) 0 (sym q ∙ n), ← c) f

pub count-of-fine : (s : List ℕ) {w : ℕ} → w ≡ whole_fault s → w ≡ 0 → octet s 16 ≤ circuits
count-of-fine s q n =
    let l = lengths_ok (settings_from s).lengths in
    let m = mode_known (octet s 15) in
    let k = between 1 (octet s 16) circuits in
    let e : (l && (m && k)) ≡ true = sym (whole-fine s) ∙ eq-eqb (whole_fault s) 0 (sym q ∙ n) in
    (between-true 1 (octet s 16) circuits (and_right m k (and_right l (m && k) e))).1
