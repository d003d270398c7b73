-- The list found is the only one.
use Rattle.neighbours.proofs.ListsLaws.{list-start, list-end, list-bad, list-next, list_on}
use Rattle.tlv.proofs.TlvLaws.{turn-list}
use Rattle.std.proofs.Common.{false, length, sym, ap, ◌∙◌, arith}
use Rattle.neighbours.proofs.lists.read_lone.Goals as goal

pub returns-then-v-ne0 : goal.returns-then-v-ne0
returns-then-v-ne0 c = sym (list-start _ false _ ∙ ap (list_on _ _) (turn-list c.in-Some.ensures c.value_at-v.ensures) ∙ list-bad _ _ _ _ c.if-v-ne0.true)

pub returns : goal.returns
returns c =
    let v = c.value_at-v in
    let e = turn-list c.in-Some.ensures v.ensures in
    rw (c.is_listed_in.ensures, ← v.ensures) (sym (list-start _ false _ ∙ ap (list_on _ _) e ∙ list-next _ _ _ _ c.if-v-ne0.false ∙ list-end _ _ _ (omega (arith, ap length e))))
