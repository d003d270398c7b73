-- The law `table_at`: what stands at place i is what its four words mean.
use Rattle.slots.proofs.SlotLaws.{table_at}
use mathlib.Core.Path.{◌∙◌, sym}
use Rattle.slots.proofs.slot.load.Goals as goal

pub returns : goal.returns
returns c =
    c.slot_of.ensures ∙ sym (table_at c.args.words.now c.args.i c.requires.1)
