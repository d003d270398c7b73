-- The invariant: the circuits before i are put.
use Rattle.own_words.specs.Words.{own_words}
use Rattle.own_words.proofs.SetupLaws.{PutUpTo}
use lib.ListN.{length}
use mathlib.Core.Path.{◌≡◌}
use Rattle.own_words.proofs.setup.put_circuits.Given as goal

abbrev pub invariant-loop-i : goal.invariant-loop-i
invariant-loop-i l = (length l.gateway ≡ own_words) × PutUpTo l.all l.gateway l.i
