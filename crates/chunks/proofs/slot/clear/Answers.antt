-- The law `cleared`.
use Rattle.chunks.proofs.SlotLaws.{cleared}
use Rattle.chunks.proofs.slot.clear.Goals as goal

pub returns : goal.returns
returns c = cleared c.args.slot.now c.requires
