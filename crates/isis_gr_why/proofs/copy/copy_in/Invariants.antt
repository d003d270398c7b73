-- The invariant: what is copied before i and what is still to copy make all.
use lib.ListN.{length, take}
use mathlib.Core.Path.{◌≡◌}
use Rattle.isis_gr_why.proofs.copy.copy_in.Given as goal

abbrev pub invariant-loop-i : goal.invariant-loop-i
invariant-loop-i l = (length l.into ≡ length l.from) × (take l.i l.into ≡ take l.i l.from)
