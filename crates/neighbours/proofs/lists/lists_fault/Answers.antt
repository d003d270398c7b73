-- The invariant: no list that was passed breaks the rule.
use Rattle.neighbours.proofs.ListsLaws.{fault-none, fault-here, fault-next}
use Rattle.neighbours.specs.Lists.{neighbours_fault}
use Rattle.tlv.proofs.TlvLaws.{none, turn-list}
use Rattle.std.proofs.Common.{sym, ap, ◌∙◌}
use Rattle.neighbours.proofs.lists.lists_fault.Goals as goal

pub returns-in_err-p : goal.returns-in_err-p
returns-in_err-p c = rw c.from_residual.ensures (sym (c.loop-at.invariant ∙ fault-none _ c.in_err-p.ensures))

pub returns-then-v-ne0 : goal.returns-then-v-ne0
returns-then-v-ne0 c = sym (c.loop-at.invariant ∙ ap neighbours_fault (turn-list c.in_ok-p.ensures c.value_at-v.ensures) ∙ fault-here _ _ c.if-v-ne0.true)

pub loop-at-preserved : goal.loop-at-preserved
loop-at-preserved c = c.loop-at.invariant ∙ ap neighbours_fault (turn-list c.in_ok-p.ensures c.value_at-v.ensures) ∙ fault-next _ _ c.if-v-ne0.false

pub returns : goal.returns
returns c = sym (c.loop-at.invariant ∙ fault-none _ (none _ _ 6 c.loop-at-test.false))
