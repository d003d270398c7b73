-- Each return is one test of `step_of`.
use Rattle.adjacency.specs.Step.{step_of}
use mathlib.Core.Path.{sym, ◌∙◌}
use Rattle.adjacency.proofs.step.step_of.Goals as goal

pub returns-then-is_kept_up : goal.returns-then-is_kept_up
unfolding step_of
returns-then-is_kept_up c = rw (sym c.is_kept_up.ensures ∙ c.if-is_kept_up.true)

pub returns : goal.returns
unfolding step_of
returns c = rw (sym c.is_kept_up.ensures ∙ c.if-is_kept_up.false) c.step_link.ensures
