-- Each return is one test of `wrong_source`.
use Rattle.adjacency.specs.Step.{wrong_source}
use Rattle.basics.proofs.Chain.{calls}
use Rattle.adjacency.proofs.step.is_wrong_source.Goals as goal

pub returns-then-is_level_off : goal.returns-then-is_level_off
unfolding wrong_source
returns-then-is_level_off c = search calls

pub returns : goal.returns
unfolding wrong_source
returns c = search calls
