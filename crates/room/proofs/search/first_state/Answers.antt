-- The law `first-at`.
use Rattle.room.proofs.SearchLaws.{first-at}
use Rattle.slots.specs.Slots.{table_of}
use Rattle.room.specs.Place.{state_in}
use Rattle.adjacency.specs.declared.place.Slot.TheVariants.{Free}
use lib.ListN.{get_or}
use Prim.Native.Nat.{ℕ}
use mathlib.Core.Path.{sym, ap, ◌∙◌}
use Rattle.room.proofs.search.first_state.Goals as goal

pub returns : goal.returns
returns c =
    let t = table_of c.args.words.now in
    c.state_at.ensures ∙ ap (λ (i : ℕ). state_in (get_or t i Free)) c.first_held.ensures ∙ sym (first-at t)
