-- The expiry word, and then the tag: the laws `due` and `not-due`.
use mathlib.Core.Path.{sym, ◌∙◌}
use Rattle.slots.proofs.ProbeLaws.{due, not-due}
use Rattle.slots.proofs.probe.is_expired_at.Goals as goal

pub returns-then-is_due_at : goal.returns-then-is_due_at
returns-then-is_due_at c =
    c.is_held_word.ensures ∙ due c.args.clock c.args.words.now c.args.i c.requires.1 (sym c.is_due_at.ensures ∙ c.if-is_due_at.true)

pub returns-else-is_due_at : goal.returns-else-is_due_at
returns-else-is_due_at c =
    c.if-is_due_at.false ∙ not-due c.args.clock c.args.words.now c.args.i c.requires.1 (sym c.is_due_at.ensures ∙ c.if-is_due_at.false)
