-- Each test's outcome decides one test of the definition.
use Rattle.std.proofs.Common.{◌≡◌, ◌≤◌, ◌∙◌, sym, arith, length}
use borrow.Author.Tests.{eq-eqb, ne_eqb, ltb-false}
use lib.Dec.{ltb}
use Rattle.basics.proofs.BoolLaws.{neither}
use Rattle.batches.specs.Batch.{most_frames, checked_by, sum}
use Rattle.batches.proofs.BatchLaws.{smaller-is}
use Rattle.batches.proofs.lists.check.Goals as goal

pub returns-then-is_uneven : goal.returns-then-is_uneven
unfolding checked_by
returns-then-is_uneven c = rw (sym c.is_uneven.ensures ∙ c.if-is_uneven.true)

pub returns-then-total-octets : goal.returns-then-total-octets
unfolding checked_by
returns-then-total-octets c =
    rw (sym c.is_uneven.ensures ∙ c.if-is_uneven.false, ne_eqb (sum c.args.lengths.now) c.args.octets (λ (e : sum c.args.lengths.now ≡ c.args.octets). omega (arith, c.total.ensures)))

pub overflow_cast-result : goal.overflow_cast-result
overflow_cast-result c =
    let n = length c.args.lengths.now in
    let few : n ≤ most_frames = ltb-false most_frames n (neither (ltb most_frames n) _ (sym c.is_uneven.ensures ∙ c.if-is_uneven.false)).0 in
    omega (arith, c.min-k.ensures)

pub returns : goal.returns
unfolding checked_by
returns c =
    rw (c.min-k.ensures ∙ smaller-is _ _, sym c.is_uneven.ensures ∙ c.if-is_uneven.false, eq-eqb (sum c.args.lengths.now) c.args.octets (sym c.total.ensures ∙ c.if-total-octets.false))
