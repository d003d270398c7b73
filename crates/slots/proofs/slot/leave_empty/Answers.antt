-- The law `emptied`.
use Rattle.slots.proofs.SlotLaws.{emptied}
use Rattle.slots.proofs.slot.leave_empty.Goals as goal

pub returns : goal.returns
returns c = emptied c.args.words.now c.args.i c.requires.0 c.requires.1 _ c.args.tag
