-- The law `lends`.
use mathlib.Core.Path.{refl}
use Rattle.gateway.proofs.WholeLaws.{lends}
use Rattle.gateway.proofs.whole.clear_at.Goals as goal

pub returns : goal.returns
returns c = lends _ _ c.requires c.clear_in.auto.gateway _ refl _ _ c.clear_in.ensures
