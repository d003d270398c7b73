-- The invariant: the circuits before i are put.
use Rattle.own_words.proofs.SetupLaws.{PutUpTo}
use Rattle.isis_gr.specs.Settings.{settings_from}
use Rattle.isis_gr.proofs.setup.put_circuits.Given as goal

abbrev pub invariant-loop-i : goal.invariant-loop-i
invariant-loop-i l = PutUpTo (settings_from l.s).circuits l.gateway l.i
