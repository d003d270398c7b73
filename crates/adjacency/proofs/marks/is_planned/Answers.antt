-- Each return is one test of `planned`.
use Rattle.adjacency.specs.Marks.{planned}
use mathlib.Core.Path.{sym, ◌∙◌}
use Rattle.adjacency.proofs.marks.is_planned.Goals as goal

pub returns-then-is_up : goal.returns-then-is_up
unfolding planned
returns-then-is_up c = rw (sym c.has.ensures ∙ c.if-has.true, sym c.is_up.ensures ∙ c.if-is_up.true) c.is_up-then-is_up.ensures

pub returns-then-has : goal.returns-then-has
unfolding planned
returns-then-has c = rw (sym c.has.ensures ∙ c.if-has.true, sym c.is_up.ensures ∙ c.if-is_up.false)

pub returns : goal.returns
unfolding planned
returns c = rw (sym c.has.ensures ∙ c.if-has.false)
