-- The law `free-told`.
use Rattle.slots.proofs.ProbeLaws.{free-told}
use Rattle.slots.proofs.probe.is_free_at.Goals as goal

pub returns : goal.returns
returns c =
    free-told c.args.words.now c.args.i c.requires.1
