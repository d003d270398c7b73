use Rattle.gateway.proofs.PieceLaws.{Dropped}
use Rattle.gateway.specs.Whole.{gateway_words}
use lib.ListN.{length}
use mathlib.Core.Path.{◌≡◌}
use Rattle.gateway.proofs.whole.drop_frames.Given as goal

-- The invariant: no frame is begun on the circuits before i.
abbrev pub invariant-loop-i : goal.invariant-loop-i
invariant-loop-i l = (length l.gateway ≡ gateway_words) × Dropped l.initial.gateway l.gateway l.i
