-- Document 02, W-202: the T1s of a LAN with both levels, of P2P with both, and of a LAN with level 2. Places count from 0: the first LAN's are 0 and 1,
-- P2P's is 2, the last LAN's 5.
use mathlib.Core.Path.{◌≡◌, refl}
use mathlib.Core.Bool.{true, false}
use mathlib.Core.List.{[], ◌∷◌}
use Rattle.basics.specs.Mask.{bits_of}
use Rattle.basics.specs.declared.kind.CircuitKind.{CircuitKind}
use Rattle.basics.specs.declared.kind.CircuitKind.TheVariants.{Lan, P2p}
use Rattle.basics.specs.declared.levels.Levels.{Levels}
use Rattle.settings.specs.Serving.{t1_place, serving_with, serving, served_at, all_t1s}
use Rattle.settings.specs.declared.circuit.Circuit.{Circuit}
use Rattle.settings.specs.declared.serving.Serving.{Serving}

abbrev first : Levels
first = record { one = true; two = false }

abbrev second : Levels
second = record { one = false; two = true }

abbrev both : Levels
both = record { one = true; two = true }

abbrev circuit : CircuitKind → Levels → Circuit
circuit kind levels = record { kind = kind; levels = levels; mac = 1; priority = 64; hold = 30; metric = 10; id = 1 }

abbrev three : Serving
three = serving (circuit Lan both ∷ circuit P2p both ∷ circuit Lan second ∷ [])

-- four T1s, P2P's once; each serves its own level, P2P's both
pub t1s-of-three : (three ≡ record { one = 5; two = 38 }) × (all_t1s three ≡ 39)
    × (served_at three 0 ≡ first) × (served_at three 1 ≡ second) × (served_at three 2 ≡ both) × (served_at three 5 ≡ second)
unfolding serving_with serving served_at bits_of
t1s-of-three = (refl, refl, refl, refl, refl, refl)

-- the place of each circuit at level 1 and at level 2
pub places-of-three : (t1_place Lan 0 1 ≡ 0) × (t1_place Lan 0 2 ≡ 1) × (t1_place P2p 1 1 ≡ 2) × (t1_place P2p 1 2 ≡ 2) × (t1_place Lan 2 2 ≡ 5)
places-of-three = (refl, refl, refl, refl, refl)
