-- The law `sum-is`: the sum of the definition is that of std.
use Rattle.std.proofs.Common.{◌≡◌, ◌∙◌, sym, rules}
use Rattle.std.specs.List.{sum_by}
use Rattle.batches.proofs.BatchLaws.{sum-is}
use Rattle.batches.proofs.lists.total.Goals as goal

pub returns : goal.returns
returns c =
    let ls = c.args.lengths.now in
    let e : c.sum.result ≡ sum_by (λ x. x) ls = search rules in
    e ∙ sym (sum-is ls)
