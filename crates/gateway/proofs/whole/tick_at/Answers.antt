-- The law `lends`.
use mathlib.Core.Path.{refl}
use Rattle.gateway.proofs.WholeLaws.{lends}
use Rattle.gateway.proofs.whole.tick_at.Goals as goal

pub returns : goal.returns
returns c = lends _ _ c.requires c.tick_in.auto.gateway _ refl _ _ c.tick_in.ensures
