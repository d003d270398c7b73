-- What `find` has answered, by the law `first_found`.
use Rattle.slots.specs.Slots.{table_of}
use Rattle.adjacency.specs.Place.{has_key}
use Rattle.slots.proofs.SlotLaws.{length-table}
use Rattle.room.proofs.SearchLaws.{Found, Passed, first_found}
use Rattle.std.proofs.Common.{rules}
use Rattle.std.proofs.lemmas.Iterator.{first_from_Range}
use Rattle.room.proofs.search.find_key.Goals as goal

pub returns : goal.returns
returns c =
    let a = c.args in
    let t = table_of a.words.now in
    let p : _ → _ = has_key (record { level = a.level; system = a.system; mac = a.mac }) in
    rw c.unwrap_or.ensures (first_found p t (length-table _) _ (first_from_Range _ _ _ _ (Found p t) (Passed p t) c.find.ensures.ran (λ x q k. search rules) (λ x q k. (search rules, search rules))))
