-- What `any` has answered, by the law `any_found`.
use Rattle.slots.specs.Slots.{table_of, places}
use Rattle.adjacency.specs.Place.{outranked_at}
use Rattle.slots.proofs.SlotLaws.{length-table}
use Rattle.room.proofs.SearchLaws.{Found, Passed, any_found}
use Rattle.std.proofs.Common.{refl, rules}
use Rattle.std.proofs.lemmas.Iterator.{cases_from_any, YieldsList-from_range}
use Rattle.room.proofs.search.is_outranked.Goals as goal

pub returns : goal.returns
returns c =
    let t = table_of c.args.words.now in
    let p = outranked_at c.args.rank in
    any_found p t (length-table _) _ (cases_from_any _ _ _ (Found p t) (Passed p t) c.any.ensures.ran (YieldsList-from_range 0 places places refl refl) (λ x q k. search rules) (λ x q k. (search rules, search rules)))
