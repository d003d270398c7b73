-- The laws of setup from octets: the test of the circuits' numbers, circuit by circuit, and what setup on octets comes to.
use Prim.Native.Nat.{ℕ, min, ◌<◌, ◌≤◌}
use native.Mathlib.Omega.{arith}
use mathlib.Core.Path.{◌≡◌, refl, ap, sym, ◌∙◌}
use mathlib.Core.Bool.{Bool, true, false, ◌&&◌}
use mathlib.Core.List.{List, []}
use lib.ListN.{length, get_or, take, length-map, get_or-map}
use mathlib.Core.Logic.{inl, inr}
use lib.Seq.{take_all, get_or-take, length-take-le}
use Rattle.std.specs.Bool.{MatchBool}
use Rattle.std.specs.List.{range_with_len, HoldsAt, AllWithin}
use Rattle.std.proofs.Common.{subst, zero-add}
use Rattle.std.proofs.lemmas.Bool.{cases_lt}
use Rattle.std.proofs.lemmas.List.FromFn.{length-range_with_len, get_or-range_with_len}
use Rattle.std.proofs.lemmas.List.Recursion.{and_from_places, and_fails_at}
use borrow.Author.Tests.{eq-eqb, ne_eqb}
use Rattle.basics.specs.Octets.{octet}
use Rattle.basics.specs.Mask.{circuits}
use Rattle.basics.specs.declared.refusal.Refusal.TheVariants.{BadSetting}
use Rattle.basics.proofs.ListLaws.{length-tabulate, get_or-tabulate}
use Rattle.basics.specs.Lists.{every}
use Rattle.settings.specs.Settings.{between, circuit_ok, lengths_ok, settings_ok}
use Rattle.settings.proofs.SettingsLaws.{ok-counted, ok-miscounted}
use Rattle.settings.specs.declared.circuit.Circuit.{Circuit}
use Rattle.settings.specs.declared.setup.Settings.{Settings}
use Rattle.control.specs.Setup.{basis_of}
use Rattle.control.specs.declared.setup.Basis.{Basis}
use Rattle.model.specs.Numbers.{refusal_no}
use Rattle.model.specs.Gateway.{setup}
use Rattle.own_words.specs.Setup.{Refused as RefusedReport, PutsCircuit, report_of}
use Rattle.gateway.specs.Whole.{SetsUpWhole}
use Rattle.isis_gr.specs.Words.{report_no, mode_known}
use Rattle.isis_gr.specs.Settings.{layout, circuit_place, circuit_places, circuit_from, circuit_known, settings_from, settings_known, setup_from, EncodesSetup}
use Rattle.std.specs.Prelude.{Result}
use Rattle.basics.specs.declared.refusal.Refusal.{Refusal}
use Rattle.timers.specs.declared.hellos.HelloOrders.{HelloOrders}

-- ---- circuit by circuit

-- what `all` has answered over the numbers below n, by what true and false say of one
abbrev pub AllOf : (ℕ → Type 0) → (ℕ → Type 0) → ℕ → Bool → Type 0
AllOf Yes No n r =
    MatchBool r (AllWithin Yes (range_with_len 0 n) 0 (length (range_with_len 0 n)))
    ((k : ℕ) × (k < length (range_with_len 0 n)) × HoldsAt No (range_with_len 0 n) k)

at : (P : ℕ → Type 0) (n k : ℕ) → k < n → HoldsAt P (range_with_len 0 n) k → P k
at P n k l h = subst P (get_or-range_with_len 0 n k 0 l ∙ zero-add k) (h 0)

-- f tells the test of each of the first n
pub all_first : {A : Type 0} (p : A → Bool) (t : List A) (d : A) (n : ℕ) (f : ℕ → Bool) → n ≤ length t → ((i : ℕ) → i < n → f i ≡ p (get_or t i d))
    → (r : Bool) → AllOf (λ i. f i ≡ true) (λ i. f i ≡ false) n r → r ≡ every p (take n t)
unfolding every
all_first p t d n f le is true h =
    sym (and_from_places (every p) p refl (λ _ _. refl) (take n t) d
    (λ i l.
    let lt : i < n = omega (arith, length-take-le n t le) in
    ap p (get_or-take n t i d lt) ∙ sym (is i lt) ∙ at (λ i. f i ≡ true) n i lt (λ e. h i e (omega arith) (omega (arith, length-range_with_len 0 n)))))
all_first p t d n f le is false h =
    let lt : h.0 < n = omega (arith, length-range_with_len 0 n, h.1) in
    sym (and_fails_at (every p) p refl (λ _ _. refl) (take n t) h.0 d (omega (arith, length-take-le n t le))
    (ap p (get_or-take n t h.0 d lt) ∙ sym (is h.0 lt) ∙ at (λ i. f i ≡ false) n h.0 lt h.2))

pub known-all : (s : List ℕ) (n : ℕ) → n ≤ circuits → (r : Bool)
    → AllOf (λ i. circuit_known s (circuit_place i) ≡ true) (λ i. circuit_known s (circuit_place i) ≡ false) n r
    → r ≡ every (circuit_known s) (take n circuit_places)
known-all s n le =
    all_first (circuit_known s) circuit_places 0 n (λ i. circuit_known s (circuit_place i)) (omega (arith, length-tabulate circuit_place circuits))
    (λ i lt. ap (circuit_known s) (sym (get_or-tabulate circuit_place circuits i 0 (omega arith))))

-- ---- all numbers

module _ (s : List ℕ) where
  pub unknown-mode : mode_known (octet s 15) ≡ false → settings_known s ≡ false
  unfolding settings_known
  unknown-mode e = rw e refl

  -- no more circuits than there are places are looked at
  pub known-counted : mode_known (octet s 15) ≡ true → (n : ℕ) → n ≡ min (octet s 16) circuits
      → every (circuit_known s) (take n circuit_places) ≡ settings_known s
  unfolding settings_known
  known-counted e n is =
      rw e
      (elim (cases_lt (octet s 16) circuits) [
        | inl l ↦ let q : n ≡ octet s 16 = omega arith in rw q refl
        | inr l ↦
            let q : n ≡ circuits = omega arith in
            ap (λ (k : ℕ). every (circuit_known s) (take k circuit_places)) q
            ∙ ap (every (circuit_known s)) (sym (take_all (octet s 16) circuit_places (omega (arith, length-tabulate circuit_place circuits, l))))
      ])

-- ---- the circuits, by their places

pub length-circuits : (s : List ℕ) → length (settings_from s).circuits ≡ circuits
unfolding settings_from
length-circuits s = length-map circuit_places (circuit_from s) ∙ length-tabulate circuit_place circuits

pub circuit-nth : (s : List ℕ) (i : ℕ) → i < circuits → circuit_from s (circuit_place i) ≡ get_or (settings_from s).circuits i (circuit_from s 0)
unfolding settings_from
circuit-nth s i lt = sym (get_or-map (circuit_from s) circuit_places i 0 ∙ ap (circuit_from s) (get_or-tabulate circuit_place circuits i 0 lt))

pub oks-all : (s : List ℕ) (n : ℕ) → n ≤ circuits → (r : Bool)
    → AllOf (λ i. circuit_ok (circuit_from s (circuit_place i)) ≡ true) (λ i. circuit_ok (circuit_from s (circuit_place i)) ≡ false) n r
    → r ≡ every circuit_ok (take n (settings_from s).circuits)
oks-all s n le =
    all_first circuit_ok (settings_from s).circuits (circuit_from s 0) n (λ i. circuit_ok (circuit_from s (circuit_place i)))
    (omega (arith, length-circuits s)) (λ i lt. ap circuit_ok (circuit-nth s i (omega arith)))

pub put_as : {i : ℕ} {c c' : Circuit} {ws ws' : List ℕ} → c ≡ c' → PutsCircuit i c ws ws' → PutsCircuit i c' ws ws'
put_as e h = rw (← e) h

-- ---- settings in range, by their basis

module _ (s : List ℕ) (b : Basis) (e : b ≡ basis_of (settings_from s)) where
  count-is : b.count ≡ (settings_from s).count
  count-is = ap (λ (x : Basis). x.count) e

  pub ok-by : (x y : Bool) → between 1 b.count circuits ≡ true → x ≡ every circuit_ok (take b.count (settings_from s).circuits) → y ≡ lengths_ok b.lengths
      → (x && y) ≡ settings_ok (settings_from s)
  ok-by x y h p q =
      rw (p, q)
      ((λ i. every circuit_ok (take (count-is i) (settings_from s).circuits) && lengths_ok (e i).lengths)
      ∙ sym (ok-counted (settings_from s) (ap (λ (n : ℕ). between 1 n circuits) (sym count-is) ∙ h)))

  pub not-by : between 1 b.count circuits ≡ false → false ≡ settings_ok (settings_from s)
  not-by h = sym (ok-miscounted (settings_from s) (ap (λ (n : ℕ). between 1 n circuits) (sym count-is) ∙ h))

-- ---- setup

module _ (s : List ℕ) {w : ℕ} {ws : List ℕ} where
  pub encodes-known : {g : Settings} {ws' : List ℕ} {r : Result HelloOrders Refusal} (version : ℕ) → version ≡ layout → settings_known s ≡ true → g ≡ settings_from s
      → SetsUpWhole (setup g) ws ws' r → w ≡ report_no (report_of r) → EncodesSetup w (setup_from version s) ws ws'
  unfolding setup_from
  encodes-known version v e f m q =
      rw (eq-eqb version layout v, e, ← f) (record { number = q ∙ ap report_no (m []).answer; next = λ fs. (m fs).next; kept = λ x y. (m []).kept x ((m []).answer ∙ y) })

  pub encodes-unknown : (version : ℕ) → version ≡ layout → settings_known s ≡ false → w ≡ report_no (RefusedReport (refusal_no BadSetting))
      → EncodesSetup w (setup_from version s) ws ws
  unfolding setup_from
  encodes-unknown version v e q = rw (eq-eqb version layout v, e) (record { number = q; next = λ fs. refl; kept = λ x y. refl })

  pub encodes-other : (version : ℕ) → (version ≡ layout → ⊥) → w ≡ report_no (RefusedReport (refusal_no BadSetting)) → EncodesSetup w (setup_from version s) ws ws
  unfolding setup_from
  encodes-other version v q = rw (ne_eqb version layout v) (record { number = q; next = λ fs. refl; kept = λ x y. refl })
