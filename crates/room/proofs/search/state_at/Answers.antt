-- Past the last place none stands; else what is loaded decides `state_in`.
use Rattle.slots.proofs.SlotLaws.{length-table}
use Rattle.slots.specs.Slots.{table_of}
use Rattle.room.specs.Place.{state_in}
use Rattle.adjacency.specs.declared.place.Slot.TheVariants.{Free}
use lib.ListN.{get_or-eq_default}
use mathlib.Core.Path.{sym, ap}
use native.Mathlib.Omega.{arith}
use Rattle.room.proofs.search.state_at.Goals as goal

pub returns-then-i-ge-PLACES : goal.returns-then-i-ge-PLACES
returns-then-i-ge-PLACES c =
    let t = table_of c.args.words.now in
    sym (ap state_in (get_or-eq_default t Free (rw length-table (omega (arith, c.if-i-ge-PLACES.true)))))
