-- Setup with the settings that were read.
use Rattle.gateway.proofs.PieceLaws.{same_whole}
use Rattle.gateway.proofs.calls.set_up.Goals as goal

pub returns : goal.returns
returns c = same_whole c.settings_given.ensures c.set_up_at.ensures
