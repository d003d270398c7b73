-- Where `any` has answered false, the law `none_found`: at a place that is not due no record has expired.
use Rattle.slots.specs.Slots.{places, due_at}
use Rattle.room.proofs.SweepLaws.{none_due}
use Rattle.std.proofs.Common.{◌≡◌, refl, rules, true, false}
use Rattle.std.proofs.lemmas.Iterator.{cases_from_any, YieldsList-from_range}
use Rattle.room.proofs.sweep.is_due.Goals as goal

pub returns : goal.returns
returns c =
    let clock = c.args.clock in
    let ws = c.args.words.now in
    none_due clock ws _ (cases_from_any _ _ _ (λ i. due_at clock ws i ≡ true) (λ i. due_at clock ws i ≡ false) c.any.ensures.ran (YieldsList-from_range 0 places places refl refl) (λ x q k. search rules) (λ x q k. (search rules, search rules)))
