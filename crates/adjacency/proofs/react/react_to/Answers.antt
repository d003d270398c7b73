-- Refusal 8, or the stages of `react_of`.
use Rattle.adjacency.specs.React.{react_of, line_in}
use Rattle.adjacency.specs.declared.marks.Road.{Road}
use mathlib.Core.Path.{sym, ap, ◌∙◌}
use Rattle.adjacency.proofs.react.react_to.Goals as goal

pub returns-then-is_wrong_neighbor : goal.returns-then-is_wrong_neighbor
unfolding react_of
returns-then-is_wrong_neighbor c = rw (← c.phase_of-phase.ensures, sym c.is_wrong_neighbor.ensures ∙ c.if-is_wrong_neighbor.true)

pub returns : goal.returns
unfolding react_of line_in
returns c = rw (← c.phase_of-phase.ensures, sym c.is_wrong_neighbor.ensures ∙ c.if-is_wrong_neighbor.false, ← c.step_of-after.ensures, ← c.mark_of.ensures, ← ap (λ (r : Road). r.line) c.road_of-road.ensures) c.accept.ensures
