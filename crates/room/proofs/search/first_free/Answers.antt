-- What `find` has answered, by the law `first_found`.
use Rattle.slots.specs.Slots.{table_of}
use Rattle.adjacency.specs.Place.{is_free}
use Rattle.slots.proofs.SlotLaws.{length-table}
use Rattle.room.proofs.SearchLaws.{Found, Passed, first_found}
use Rattle.std.proofs.Common.{rules}
use Rattle.std.proofs.lemmas.Iterator.{first_from_Range}
use Rattle.room.proofs.search.first_free.Goals as goal

pub returns : goal.returns
returns c =
    let t = table_of c.args.words.now in
    rw c.unwrap_or.ensures (first_found is_free t (length-table _) _ (first_from_Range _ _ _ _ (Found is_free t) (Passed is_free t) c.find.ensures.ran (λ x q k. search rules) (λ x q k. (search rules, search rules))))
