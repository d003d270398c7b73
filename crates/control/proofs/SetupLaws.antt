-- Setup's stores: the circuits, the other settings, and all of it together.
use Prim.Native.Nat.{ℕ, zero, suc, ◌+◌, ◌-◌, ◌*◌, ◌^◌, ◌%◌, ◌<◌, ◌≤◌}
use native.Mathlib.Omega.{arith}
use mathlib.Core.Path.{◌≡◌, refl, ap, sym, ◌∙◌}
use mathlib.Core.Logic.{inl, inr, ◌≢◌}
use mathlib.Core.List.{List, [], ◌∷◌}
use lib.Dec.{ltb}
use Rattle.basics.specs.Mask.{circuits}
use Rattle.basics.proofs.BoolLaws.{by-test}
use lib.ListN.{length, get_or, set, take, length-set}
use lib.Pow.{pow_mono}
use lib.Seq.{ext_get_or, get_or-set_same, get_or-set_other}
use borrow.Author.Tests.{eq-eqb, le-ltb, ltb-true, ltb-false}
use Rattle.settings.specs.declared.lengths.Lengths.{Lengths}
use Rattle.timers.specs.Timers.{Timers}
use Rattle.timers.specs.Hellos.{Hellos}
use Rattle.timers.specs.Events.{started, start_hellos, Starts}
use Rattle.timers.specs.declared.events.Start.{Start}
use Rattle.settings.specs.declared.circuit.Circuit.{Circuit}
use Rattle.settings.specs.declared.setup.Settings.{Settings}
use Rattle.settings.specs.Settings.{circuits_of}
use Rattle.settings.specs.Serving.{serving_with, serving, levels_served}
use Rattle.settings.specs.declared.serving.Serving.{Serving}
use Rattle.settings.proofs.ServingLaws.{serving-below, served-enabled}
use Rattle.control.specs.Words.{control_words, seal_place, count_place, clock_place, system_place, lengths_place, serving_place, circuits_place, seal, sealed, lengths_in, serving_in, circuit_in, circuit_at, circuits_from, count_of, common_of}
use Rattle.control.specs.Common.{with_timers, start_of, setup_common, no_circuit}
use Rattle.control.proofs.CommonLaws.{length-circuits, circuits-at, Keeps, circuits-kept}
use Rattle.control.specs.Setup.{Stores, SetsControl}

-- ---- a circuit's three words

abbrev pub set3 : List ℕ → ℕ → ℕ → ℕ → ℕ → List ℕ
set3 ws i w mac id = set (set (set ws (circuits_place + 3 * i) w) (circuits_place + 3 * i + 1) mac) (circuits_place + 3 * i + 2) id

module _ (ws : List ℕ) (i w mac id : ℕ) where
  apart : (j k : ℕ) → j ≢ i → k < 3 → get_or (set3 ws i w mac id) (circuits_place + 3 * j + k) 0 ≡ get_or ws (circuits_place + 3 * j + k) 0
  apart j k ne lt =
      get_or-set_other (set (set ws (circuits_place + 3 * i) w) (circuits_place + 3 * i + 1) mac) (circuits_place + 3 * i + 2) (circuits_place + 3 * j + k) id 0
      (λ (z : circuits_place + 3 * j + k ≡ circuits_place + 3 * i + 2). ne (omega arith))
      ∙ get_or-set_other (set ws (circuits_place + 3 * i) w) (circuits_place + 3 * i + 1) (circuits_place + 3 * j + k) mac 0
      (λ (z : circuits_place + 3 * j + k ≡ circuits_place + 3 * i + 1). ne (omega arith))
      ∙ get_or-set_other ws (circuits_place + 3 * i) (circuits_place + 3 * j + k) w 0
      (λ (z : circuits_place + 3 * j + k ≡ circuits_place + 3 * i). ne (omega arith))

  pub circuit-else : (j : ℕ) → j ≢ i → circuit_at (set3 ws i w mac id) j ≡ circuit_at ws j
  unfolding circuit_at
  circuit-else j ne =
      let z : circuits_place + 3 * j + 0 ≡ circuits_place + 3 * j = omega arith in
      let a = ap (λ (n : ℕ). get_or (set3 ws i w mac id) n 0) (sym z) ∙ apart j 0 ne (omega arith) ∙ ap (λ (n : ℕ). get_or ws n 0) z in
      rw (a, apart j 1 ne (omega arith), apart j 2 ne (omega arith)) refl

  pub circuit-here : length ws ≡ control_words → i < circuits → circuit_at (set3 ws i w mac id) i ≡ circuit_in w mac id
  unfolding circuit_at
  circuit-here len lt =
      let x1 = set ws (circuits_place + 3 * i) w in
      let x2 = set x1 (circuits_place + 3 * i + 1) mac in
      rw (
        get_or-set_other x2 (circuits_place + 3 * i + 2) (circuits_place + 3 * i) id 0 (λ (z : circuits_place + 3 * i ≡ circuits_place + 3 * i + 2). omega arith),
        get_or-set_other x1 (circuits_place + 3 * i + 1) (circuits_place + 3 * i) mac 0 (λ (z : circuits_place + 3 * i ≡ circuits_place + 3 * i + 1). omega arith),
        get_or-set_same ws (circuits_place + 3 * i) w 0 (omega arith),
        get_or-set_other x2 (circuits_place + 3 * i + 2) (circuits_place + 3 * i + 1) id 0 (λ (z : circuits_place + 3 * i + 1 ≡ circuits_place + 3 * i + 2). omega arith),
        get_or-set_same x1 (circuits_place + 3 * i + 1) mac 0 (simp length-set (omega arith)),
        get_or-set_same x2 (circuits_place + 3 * i + 2) id 0 (simp length-set (omega arith)),
      ) refl

-- ---- all circuits

-- the circuits before i are stored
abbrev pub Stored : List ℕ → List Circuit → ℕ → Type 0
Stored ws all i = (j : ℕ) → j < i → circuit_at ws j ≡ get_or all j (no_circuit)

default_free : (l : List Circuit) (i : ℕ) (d d' : Circuit) → i < length l → get_or l i d ≡ get_or l i d'
default_free [] i d d' lt = absurd (omega arith)
default_free (x ∷ xs) zero d d' lt = refl
default_free (x ∷ xs) (suc i) d d' lt = default_free xs i d d' (omega arith)

pub stored-step : (ws ws' : List ℕ) (all : List Circuit) (i : ℕ) (d : Circuit) → i < length all → Stored ws all i → circuit_at ws' i ≡ get_or all i d
    → ((j : ℕ) → j ≢ i → circuit_at ws' j ≡ circuit_at ws j) → Stored ws' all (i + 1)
stored-step ws ws' all i d li s e o j lt =
    by-test (ltb j i) (λ q. let h : j < i = ltb-true j i q in o j (λ (z : j ≡ i). omega arith) ∙ s j h)
    (λ q. let h : i ≤ j = ltb-false j i q in let z : j ≡ i = omega arith in rw z (e ∙ default_free all i d (no_circuit) li))

pub stored-all : (ws : List ℕ) (all : List Circuit) → length all ≡ circuits → Stored ws all circuits → circuits_from ws 0 circuits ≡ all
stored-all ws all len s =
    ext_get_or (no_circuit) (circuits_from ws 0 circuits) all (length-circuits ws 0 circuits ∙ sym len)
    (λ i lt.
    let h : i < circuits = omega (arith, length-circuits ws 0 circuits) in
    let z : 0 + i ≡ i = omega arith in
    circuits-at ws 0 circuits i (no_circuit) h ∙ ap (circuit_at ws) z ∙ s i h)

-- the first n of the eight
circuits-take : (ws : List ℕ) (i n k : ℕ) → n ≤ k → circuits_from ws i n ≡ take n (circuits_from ws i k)
unfolding circuits_from
circuits-take ws i zero k le = refl
circuits-take ws i (suc n) zero le = absurd (omega arith)
circuits-take ws i (suc n) (suc k) le = ap (λ (l : List Circuit). circuit_at ws i ∷ l) (circuits-take ws (suc i) n k (omega arith))

-- ---- which T1s the circuits have, from the last circuit to the first

pub serving-none : (ws : List ℕ) (count : ℕ) → record { one = 0; two = 0 } ≡ serving (circuits_from ws count (count - count))
unfolding serving circuits_from
serving-none ws count = let z : count - count ≡ 0 = omega arith in rw z refl

module _ (ws : List ℕ) (i count : ℕ) (found : Serving) (e : found ≡ serving (circuits_from ws i (count - i))) (p : 0 < i) where
  pub serving-fits : i ≤ count → count ≤ circuits → (found.one < 2 ^ 14) × (found.two < 2 ^ 14)
  serving-fits le h =
      let n = length-circuits ws i (count - i) in
      let k : 2 * length (circuits_from ws i (count - i)) ≤ 14 = omega (arith, n) in
      let m : 2 ^ (2 * length (circuits_from ws i (count - i))) ≤ 2 ^ 14 = pow_mono k in
      let b = serving-below (circuits_from ws i (count - i)) in
      rw e (omega (arith, m, b.0), omega (arith, m, b.1))

  pub serving-step : i ≤ count → (s : Circuit) → s ≡ circuit_at ws (i - 1)
      → serving_with s.kind s.levels found ≡ serving (circuits_from ws (i - 1) (count - (i - 1)))
  unfolding serving circuits_from
  serving-step le s q =
      let n : count - (i - 1) ≡ suc (count - i) = omega arith in
      let j : suc (i - 1) ≡ i = omega arith in
      rw (n, j, q, e) refl

-- ---- the other settings

module _ (ws : List ℕ) (system clock count w x : ℕ) (len : length ws ≡ control_words) where
  abbrev x1 : List ℕ
  x1 = set ws seal_place seal

  abbrev x2 : List ℕ
  x2 = set x1 count_place count

  abbrev x3 : List ℕ
  x3 = set x2 clock_place clock

  abbrev x4 : List ℕ
  x4 = set x3 system_place system

  abbrev x5 : List ℕ
  x5 = set x4 lengths_place w

  abbrev pub set6 : List ℕ
  set6 = set x5 serving_place x

  far : (xs : List ℕ) (p q v : ℕ) → q < p → get_or (set xs p v) q 0 ≡ get_or xs q 0
  far xs p q v h = get_or-set_other xs p q v 0 (λ (z : q ≡ p). omega arith)

  past : (xs : List ℕ) (p q v : ℕ) → p < q → get_or (set xs p v) q 0 ≡ get_or xs q 0
  past xs p q v h = get_or-set_other xs p q v 0 (λ (z : q ≡ p). omega arith)

  keeps : Keeps 0 (serving_place + 1) ws set6
  keeps q (inl h) = absurd (omega arith)
  keeps q (inr h) =
      past x5 serving_place q x (omega arith) ∙ past x4 lengths_place q w (omega arith) ∙ past x3 system_place q system (omega arith)
      ∙ past x2 clock_place q clock (omega arith) ∙ past x1 count_place q count (omega arith) ∙ past ws seal_place q seal (omega arith)

  -- the words ahead of the lengths
  early : (q : ℕ) → q < lengths_place → get_or set6 q 0 ≡ get_or x4 q 0
  early q h = far x5 serving_place q x (omega arith) ∙ far x4 lengths_place q w h

  seal-there : get_or set6 seal_place 0 ≡ seal
  seal-there =
      early seal_place (omega arith) ∙ far x3 system_place seal_place system (omega arith) ∙ far x2 clock_place seal_place clock (omega arith)
      ∙ far x1 count_place seal_place count (omega arith) ∙ get_or-set_same ws seal_place seal 0 (omega arith)

  count-there : get_or set6 count_place 0 ≡ count
  count-there =
      early count_place (omega arith) ∙ far x3 system_place count_place system (omega arith) ∙ far x2 clock_place count_place clock (omega arith)
      ∙ get_or-set_same x1 count_place count 0 (simp length-set (omega arith))

  clock-there : get_or set6 clock_place 0 ≡ clock
  clock-there =
      early clock_place (omega arith) ∙ far x3 system_place clock_place system (omega arith)
      ∙ get_or-set_same x2 clock_place clock 0 (simp length-set (omega arith))

  system-there : get_or set6 system_place 0 ≡ system
  system-there = early system_place (omega arith) ∙ get_or-set_same x3 system_place system 0 (simp length-set (omega arith))

  lengths-there : get_or set6 lengths_place 0 ≡ w
  lengths-there = far x5 serving_place lengths_place x (omega arith) ∙ get_or-set_same x4 lengths_place w 0 (simp length-set (omega arith))

  counted : count ≤ circuits → count_of set6 ≡ count
  unfolding count_of sealed
  counted h = rw (eq-eqb (get_or set6 seal_place 0) seal seal-there, count-there, le-ltb circuits count h) refl

  pub settings-stored : (lengths : Lengths) (v : Serving) → lengths_in w ≡ lengths → serving_in x ≡ v → clock < 4294967296 → count ≤ circuits
      → Stores system lengths clock count v ws set6
  unfolding common_of
  settings-stored lengths v e g hc hn =
      let z : clock % 4294967296 ≡ clock = omega arith in
      record {
        sealed = seal-there;
        system = system-there;
        lengths = ap lengths_in lengths-there ∙ e;
        clock = ap (λ (n : ℕ). n % 4294967296) clock-there ∙ z;
        serving = ap serving_in (get_or-set_same x5 serving_place x 0 (simp length-set (omega arith))) ∙ g;
        circuits = ap (circuits_from set6 0) (counted hn) ∙ circuits-kept 0 (serving_place + 1) ws set6 keeps 0 count (omega arith);
      }

-- ---- all of it

module _ (s : Settings) (le : s.count ≤ circuits) (ws mid : List ℕ) (start : Start) where
  pub all_set : circuits_from ws 0 circuits ≡ s.circuits → Stores s.system s.lengths s.clock s.count start.serving ws mid
      → start.mode ≡ s.mode → start.lengths ≡ s.lengths → start.clock ≡ s.clock → start.serving ≡ serving (circuits_from ws 0 s.count)
      → start.levels ≡ levels_served start.serving
      → (with_timers (started start) (common_of mid) ≡ setup_common s) × (start ≡ start_of s)
  unfolding setup_common
  all_set c m e₁ e₂ e₃ e₄ e₅ =
      let j : circuits_from ws 0 s.count ≡ circuits_of s = circuits-take ws 0 s.count circuits le ∙ ap (take s.count) c in
      let k : (common_of mid).circuits ≡ circuits_of s = m.circuits ∙ j in
      let v : start.serving ≡ serving (circuits_of s) = e₄ ∙ ap serving j in
      let q : start ≡ start_of s = begun start (start_of s) e₁ e₂ e₃ v (e₅ ∙ ap levels_served v ∙ served-enabled (circuits_of s)) in
      (cc (m.system, m.lengths, m.clock, k, ap started q), q)
    where
      begun : (a b : Start) → a.mode ≡ b.mode → a.lengths ≡ b.lengths → a.clock ≡ b.clock → a.serving ≡ b.serving → a.levels ≡ b.levels → a ≡ b
      begun a b p q r t u =
          let x : ◌≡◌ {A = Start} (record { mode = a.mode; lengths = a.lengths; clock = a.clock; serving = a.serving; levels = a.levels })
          (record { mode = b.mode; lengths = b.lengths; clock = b.clock; serving = b.serving; levels = b.levels }) = rw (p, q, r, t, u) refl in x

  pub sets-up : (u : List ℕ) (after : Timers) (hs : Hellos) → (with_timers (started start) (common_of mid) ≡ setup_common s) × (start ≡ start_of s)
      → common_of u ≡ with_timers after (common_of mid) → Starts start after hs → SetsControl s u hs
  sets-up u after hs q p x =
      record {
        common = p ∙ ap (λ (t : Timers). with_timers t (common_of mid)) x.timers ∙ q.0;
        hellos = x.hellos ∙ ap start_hellos q.1;
      }
