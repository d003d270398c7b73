-- The law `find_at`.
use Rattle.room.proofs.SearchLaws.{find_at}
use Rattle.slots.specs.Slots.{table_of}
use Rattle.room.specs.Place.{state_in}
use Rattle.adjacency.specs.declared.place.Slot.TheVariants.{Free}
use lib.ListN.{get_or}
use Prim.Native.Nat.{ℕ}
use mathlib.Core.Path.{sym, ap, ◌∙◌}
use Rattle.room.proofs.place.found.Goals as goal

pub returns : goal.returns
returns c =
    let a = c.args in
    let t = table_of a.words.now in
    c.state_at.ensures ∙ ap (λ (i : ℕ). state_in (get_or t i Free)) c.find_key.ensures ∙ sym (find_at a.key t)
