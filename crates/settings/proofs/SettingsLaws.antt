-- A list's tests, what is left of them on the way, and what settings in range say.
use Prim.Native.Nat.{ℕ, ◌+◌, ◌<◌, ◌≤◌}
use native.Mathlib.Numerals.{add-one}
use mathlib.Core.Path.{◌≡◌, refl}
use mathlib.Core.Bool.{true, false, or_assoc, or-false, ◌&&◌}
use mathlib.Core.List.{List}
use lib.ListN.{length, get_or, drop, drop_of_length-le}
use lib.Seq.{drop-cons}
use lib.Dec.{leb}
use borrow.Author.Tests.{leb-true}
use Rattle.basics.specs.Mask.{circuits}
use Rattle.basics.proofs.BoolLaws.{and_left, and_right}
use Rattle.basics.specs.declared.levels.Levels.{Levels}
use Rattle.basics.specs.Levels.{union}
use Rattle.settings.specs.declared.circuit.Circuit.{Circuit}
use Rattle.settings.specs.declared.setup.Settings.{Settings}
use Rattle.settings.specs.Settings.{between, circuit_ok, circuits_of, lengths_ok, settings_ok, enabled_levels}
use Rattle.basics.specs.Lists.{every, some}

pub between-true : (low n high : ℕ) → between low n high ≡ true → (low ≤ n) × (n ≤ high)
between-true low n high h =
    (leb-true low n (and_left (leb low n) (leb n high) h), leb-true n high (and_right (leb low n) (leb n high) h))

-- the levels of a circuit join those found before it, and at the end no more come
pub enabled-step : (l : Levels) (t : List Circuit) (i : ℕ) (d : Circuit) → i < length t
    → union l (enabled_levels (drop i t)) ≡ union (union l (get_or t i d).levels) (enabled_levels (drop (i + 1) t))
unfolding enabled_levels some
enabled-step l t i d lt =
    rw (add-one i, drop-cons t i d lt) (cc (or_assoc l.one (get_or t i d).levels.one _, or_assoc l.two (get_or t i d).levels.two _))

pub enabled-end : (l : Levels) (t : List Circuit) (i : ℕ) → length t ≤ i → union l (enabled_levels (drop i t)) ≡ l
unfolding enabled_levels some
enabled-end l t i le = rw (drop_of_length-le t le) (rw (or-false l.one, or-false l.two) refl)

-- of settings in range there are 1 to 8 circuits
pub count-in-range : (s : Settings) → settings_ok s ≡ true → (1 ≤ s.count) × (s.count ≤ circuits)
unfolding settings_ok
count-in-range s h = between-true 1 s.count circuits (and_left (between 1 s.count circuits) _ h)

-- the count decides first
module _ (s : Settings) where
  pub ok-counted : between 1 s.count circuits ≡ true → settings_ok s ≡ (every circuit_ok (circuits_of s) && lengths_ok s.lengths)
  unfolding settings_ok
  ok-counted e = rw e refl

  pub ok-miscounted : between 1 s.count circuits ≡ false → settings_ok s ≡ false
  unfolding settings_ok
  ok-miscounted e = rw e refl
