-- The invariant: the levels found, with those of the circuits from i on, are those of all circuits.
use mathlib.Core.Path.{sym, ◌∙◌}
use Rattle.settings.proofs.SettingsLaws.{enabled-end}
use Rattle.control.proofs.CommonLaws.{circuits-length, levels-step}
use Rattle.control.proofs.words.levels_of.Goals as goal

pub loop-i-preserved : goal.loop-i-preserved
loop-i-preserved c = let l = c.loop-i in let n = c.count_of-i-end.ensures in levels-step c.args.words.now l.found _ l.i _ (rw (← n.0) c.loop-i-test.true) c.load_circuit.ensures c.join_levels-found.ensures l.invariant

pub returns : goal.returns
returns c = let l = c.loop-i in let n = c.count_of-i-end.ensures in sym (enabled-end l.found _ l.i (rw circuits-length (rw (← n.0) c.loop-i-test.false))) ∙ l.invariant
