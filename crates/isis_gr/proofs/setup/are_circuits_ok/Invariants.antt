-- The invariant: the circuits are all in range where those from i on are.
use mathlib.Core.Path.{◌≡◌}
use lib.ListN.{take, drop}
use Rattle.basics.specs.Lists.{every}
use Rattle.settings.specs.Settings.{circuit_ok}
use Rattle.isis_gr.specs.Settings.{settings_from}
use Rattle.isis_gr.proofs.setup.are_circuits_ok.Given as goal

abbrev pub invariant-loop-i : goal.invariant-loop-i
invariant-loop-i l = every circuit_ok (take l.count (settings_from l.s).circuits) ≡ every circuit_ok (drop l.i (take l.count (settings_from l.s).circuits))
