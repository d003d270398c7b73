-- Which settings are in range (document 01, "What the gateway holds": "A setting outside its range is refused (12) and no gateway
-- results."), and which levels are enabled.
use Rattle.std.specs.Prelude.{ℕ, Bool, ◌&&◌, List, leb, take}
use Rattle.basics.specs.Mask.{circuits}
use Rattle.basics.specs.Lists.{every, some}
use Rattle.basics.specs.declared.levels.Levels.{Levels}
use Rattle.basics.specs.Levels.{is_on, levels_with, some_on}
use Rattle.settings.specs.declared.lengths.Lengths.{Lengths}
use Rattle.settings.specs.declared.circuit.Circuit.{Circuit}
use Rattle.settings.specs.declared.setup.Settings.{Settings}

abbrev pub between : ℕ → ℕ → ℕ → Bool
between low n high = leb low n && leb n high

-- ".. priority (0 to 127), configured holding time (1 to 65,535 s), configured wide metric (0 to 16,777,214)", of a LAN and of P2P
unfoldable pub circuit_ok : Circuit → Bool
circuit_ok c = some_on c.levels && (between 0 c.priority 127 && (between 1 c.hold 65535 && between 0 c.metric 16777214))

-- "T1 and T2 lengths (1 to 65,535 s), T1 tries N (1 to 255)", in any mode
unfoldable pub lengths_ok : Lengths → Bool
lengths_ok s = between 1 s.t1 65535 && (between 1 s.t2 65535 && between 1 s.tries 255)

-- "1 to 8 circuits, numbered from 1"
abbrev pub circuits_of : Settings → List Circuit
circuits_of s = take s.count s.circuits

unfoldable pub settings_ok : Settings → Bool
settings_ok s = between 1 s.count circuits && (every circuit_ok (circuits_of s) && lengths_ok s.lengths)

-- "An enabled level means one enabled on some circuit."
unfoldable pub enabled_levels : List Circuit → Levels
enabled_levels cs = levels_with (λ k. some (λ c. is_on k c.levels) cs)
