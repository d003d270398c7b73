-- The law `lends`.
use mathlib.Core.Path.{refl}
use Rattle.gateway.proofs.WholeLaws.{lends}
use Rattle.gateway.proofs.whole.receive_at.Goals as goal

pub returns : goal.returns
returns c = lends _ _ c.requires.0 c.receive_in.auto.gateway _ refl _ _ c.receive_in.ensures
