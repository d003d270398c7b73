-- Each return is one test of `kept_up`.
use Rattle.adjacency.specs.Step.{kept_up}
use mathlib.Core.Path.{sym, ◌∙◌}
use Rattle.adjacency.proofs.step.is_kept_up.Goals as goal

pub returns-then-is_request : goal.returns-then-is_request
unfolding kept_up
returns-then-is_request c = rw (sym c.is_request.ensures ∙ c.if-is_request.true) c.is_up.ensures

pub returns : goal.returns
unfolding kept_up
returns c = rw (sym c.is_request.ensures ∙ c.if-is_request.false)
