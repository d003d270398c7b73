-- The first circuit with a digit that is set is the first with a T1 that runs.
use Rattle.timers.proofs.TimersLaws.{lowest-of}
use mathlib.Core.Path.{◌∙◌}
use Rattle.timers.proofs.head.lowest_waiting.Goals as goal

pub returns : goal.returns
returns c = λ v e. c.lowest_circuit.ensures ∙ lowest-of v c.args.h e
