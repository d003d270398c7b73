-- Each return is one test of `rises`.
use Rattle.adjacency.specs.Step.{rises}
use Rattle.basics.proofs.Chain.{calls}
use Rattle.adjacency.proofs.step.rises.Goals as goal

pub returns-then-is_up : goal.returns-then-is_up
unfolding rises
returns-then-is_up c = search calls

pub returns : goal.returns
unfolding rises
returns c = search calls
