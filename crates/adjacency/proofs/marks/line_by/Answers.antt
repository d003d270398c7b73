-- Each return is one test of `line_by`.
use Rattle.adjacency.specs.Marks.{line_by}
use mathlib.Core.Path.{sym, ◌∙◌}
use Rattle.adjacency.proofs.marks.line_by.Goals as goal

pub returns-then-is_up : goal.returns-then-is_up
unfolding line_by
returns-then-is_up c = rw (sym c.has.ensures ∙ c.if-has.true, sym c.is_up.ensures ∙ c.if-is_up.true)

pub returns-then-has : goal.returns-then-has
unfolding line_by
returns-then-has c = rw (sym c.has.ensures ∙ c.if-has.true, sym c.is_up.ensures ∙ c.if-is_up.false)

pub returns-then-is_planned : goal.returns-then-is_planned
unfolding line_by
returns-then-is_planned c = rw (sym c.has.ensures ∙ c.if-has.false, sym c.is_planned.ensures ∙ c.if-is_planned.true)

pub returns : goal.returns
unfolding line_by
returns c = rw (sym c.has.ensures ∙ c.if-has.false, sym c.is_planned.ensures ∙ c.if-is_planned.false) c.last_line.ensures
