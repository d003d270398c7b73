-- The invariant: the fault is that of the circuits from i on.
use mathlib.Core.Path.{◌≡◌}
use Prim.Native.Nat.{◌+◌}
use lib.ListN.{take, drop}
use Rattle.isis_gr.specs.Settings.{circuit_places}
use Rattle.isis_gr.specs.Faults.{circuits_fault}
use Rattle.isis_gr.proofs.faults.circuits_fault.Given as goal

abbrev pub invariant-loop-i : goal.invariant-loop-i
invariant-loop-i l = circuits_fault l.s (take l.count circuit_places) 1 ≡ circuits_fault l.s (drop l.i (take l.count circuit_places)) (l.i + 1)
