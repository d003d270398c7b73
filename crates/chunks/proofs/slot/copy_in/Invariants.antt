-- The invariant: the octets before i are pasted.
use lib.Seq.{paste}
use lib.ListN.{length}
use mathlib.Core.Path.{◌≡◌}
use Rattle.chunks.proofs.slot.copy_in.Given as goal

abbrev pub invariant-loop-i : goal.invariant-loop-i
invariant-loop-i l =
    (length l.frame ≡ length l.initial.frame) × (l.frame ≡ paste l.initial.frame l.at l.octets l.i)
