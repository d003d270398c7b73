-- The law `puts_whole`.
use Rattle.gateway.proofs.PieceLaws.{puts_whole}
use Rattle.gateway.proofs.setup.put_at.Goals as goal

pub returns : goal.returns
returns c = puts_whole _ _ c.requires.0 c.put_in.auto.gateway c.put_in.ensures
