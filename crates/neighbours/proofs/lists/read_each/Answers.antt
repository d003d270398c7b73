-- The invariant: the lists that are left, as many as turns, and what was listed before give the reading of the whole.
use Rattle.neighbours.proofs.ListsLaws.{list_on, list-start, list-end, list-bad, list-next}
use Rattle.tlv.proofs.TlvLaws.{turn-list}
use Rattle.std.proofs.Common.{false, length, sym, ap, ◌∙◌, arith}
use Rattle.neighbours.proofs.lists.read_each.Goals as goal

pub loop-init : goal.loop-init
loop-init c = (omega arith, list-start _ false _)

pub returns-in_default : goal.returns-in_default
returns-in_default c = sym (c.loop.invariant.1 ∙ list-end _ _ _ (ap length c.in_default.ensures))

pub returns-then-v-ne0 : goal.returns-then-v-ne0
returns-then-v-ne0 c = sym (c.loop.invariant.1 ∙ ap (list_on _ _) (turn-list c.in-Some.ensures c.value_at-v.ensures) ∙ list-bad _ _ _ _ c.if-v-ne0.true)

pub loop-preserved : goal.loop-preserved
loop-preserved c =
    let e = turn-list c.in-Some.ensures c.value_at-v.ensures in
    (omega (arith, ap length e), rw (c.is_listed_here-listed.ensures, ← c.value_at-v.ensures) (c.loop.invariant.1 ∙ ap (list_on _ _) e ∙ list-next _ _ _ _ c.if-v-ne0.false))

pub returns : goal.returns
returns c = sym (c.loop.invariant.1 ∙ list-end _ _ _ (omega arith))
