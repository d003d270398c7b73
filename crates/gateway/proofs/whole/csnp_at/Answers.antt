-- The law `lends`.
use mathlib.Core.Path.{refl}
use Rattle.gateway.proofs.WholeLaws.{lends}
use Rattle.gateway.proofs.whole.csnp_at.Goals as goal

pub returns : goal.returns
returns c = lends _ _ c.requires c.csnp_in.auto.gateway _ refl _ _ c.csnp_in.ensures
