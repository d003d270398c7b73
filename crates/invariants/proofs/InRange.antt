-- What settings in range say: of the circuits, of N, and that a circuit has a T1 for each level that may be asked for there.
use Prim.Native.Nat.{ℕ, zero, suc, ◌<◌, ◌≤◌}
use native.Mathlib.Omega.{arith}
use mathlib.Core.Path.{◌≡◌, refl}
use mathlib.Core.Bool.{Bool, true}
use mathlib.Core.List.{List, [], ◌∷◌}
use lib.ListN.{length, get_or, length-take}
use Rattle.basics.specs.Mask.{circuits}
use Rattle.basics.specs.Lists.{every}
use Rattle.basics.specs.Levels.{some_on}
use Rattle.basics.specs.declared.kind.CircuitKind.{CircuitKind}
use Rattle.basics.specs.declared.kind.CircuitKind.TheVariants.{Lan, P2p}
use Rattle.basics.proofs.BoolLaws.{both, and_left}
use Rattle.settings.specs.Settings.{between, circuit_ok, circuits_of, lengths_ok, settings_ok}
use Rattle.settings.specs.Serving.{t1_place}
use Rattle.settings.specs.declared.circuit.Circuit.{Circuit}
use Rattle.settings.specs.declared.setup.Settings.{Settings}
use Rattle.settings.proofs.SettingsLaws.{between-true, count-in-range}
use Rattle.settings.proofs.ServingLaws.{t1-lan, t1-p2p}
use Rattle.control.specs.Common.{no_circuit}
use Rattle.model.specs.Step.{asks_level}
use Rattle.invariants.specs.Invariants.{IsT1}

every-at : {A : Type 0} (p : A → Bool) (l : List A) (i : ℕ) (d : A) → every p l ≡ true → i < length l → p (get_or l i d) ≡ true
unfolding every
every-at p [] i d e lt = absurd (omega arith)
every-at p (x ∷ l) zero d e lt = (both (p x) (every p l) e).0
every-at p (x ∷ l) (suc i) d e lt = every-at p l i d (both (p x) (every p l) e).1 (omega arith)

-- ---- a circuit

levels-ok : (c : Circuit) → circuit_ok c ≡ true → some_on c.levels ≡ true
unfolding circuit_ok
levels-ok c e = and_left (some_on c.levels) _ e

hold-ok : (c : Circuit) → circuit_ok c ≡ true → c.hold ≤ 65535
unfolding circuit_ok
hold-ok c e =
    let a = (both (some_on c.levels) _ e).1 in
    let b = (both (between 0 c.priority 127) _ a).1 in
    let d = (both (between 1 c.hold 65535) _ b).0 in
    (between-true 1 c.hold 65535 d).1

-- circuit i, counted from 0, is c
abbrev pub Stands : List Circuit → ℕ → Circuit → Type 0
Stands cs i c = (i < length cs) × (get_or cs i no_circuit ≡ c)

module _ (s : Settings) (ok : settings_ok s ≡ true) where
  pub circuits-ok : every circuit_ok (circuits_of s) ≡ true
  unfolding settings_ok
  circuits-ok =
      let a = (both (between 1 s.count circuits) _ ok).1 in
      (both (every circuit_ok (circuits_of s)) _ a).0

  pub tries-ok : 0 < s.lengths.tries
  unfolding settings_ok lengths_ok
  tries-ok =
      let a = (both (between 1 s.count circuits) _ ok).1 in
      let b = (both (every circuit_ok (circuits_of s)) _ a).1 in
      let c = (both (between 1 s.lengths.t1 65535) _ b).1 in
      (between-true 1 s.lengths.tries 255 (both (between 1 s.lengths.t2 65535) _ c).1).0

  few : length (circuits_of s) ≤ circuits
  few = omega (arith, length-take s.count s.circuits, count-in-range s ok)

  module _ (i : ℕ) (c : Circuit) (stands : Stands (circuits_of s) i c) where
    circuit-ok : circuit_ok c ≡ true
    circuit-ok = rw stands.1 at (every-at circuit_ok (circuits_of s) i no_circuit circuits-ok stands.0)

    pub circuit-hold : c.hold ≤ 65535
    circuit-hold = hold-ok c circuit-ok

    -- the T1 of a level that may be asked for on the circuit
    t1-by : (kind : CircuitKind) → c.kind ≡ kind → (level : ℕ) → asks_level kind c.levels level ≡ true → IsT1 s (t1_place kind i level)
    t1-by Lan e level on =
        t1-lan (circuits_of s) few i stands.0 no_circuit (rw stands.1 e) level (rw stands.1 on)
    t1-by P2p e level on =
        t1-p2p (circuits_of s) few i stands.0 no_circuit (rw stands.1 e) level (rw stands.1 (levels-ok c circuit-ok))

    pub t1-asked : (level : ℕ) → asks_level c.kind c.levels level ≡ true → IsT1 s (t1_place c.kind i level)
    t1-asked level on = t1-by c.kind refl level on
