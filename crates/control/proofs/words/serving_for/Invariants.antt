-- The invariant: what is found is of the circuits from i on.
use mathlib.Core.Path.{◌≡◌}
use Prim.Native.Nat.{◌-◌}
use Rattle.settings.specs.Serving.{serving}
use Rattle.control.specs.Words.{circuits_from}
use Rattle.control.proofs.words.serving_for.Given as goal

abbrev pub invariant-loop-i : goal.invariant-loop-i
invariant-loop-i l = l.found ≡ serving (circuits_from l.words l.i (l.count - l.i))
