-- The law `lends`.
use mathlib.Core.Path.{refl}
use Rattle.gateway.proofs.WholeLaws.{lends}
use Rattle.gateway.proofs.whole.database_at.Goals as goal

pub returns : goal.returns
returns c = lends _ _ c.requires c.database_in.auto.gateway _ refl _ _ c.database_in.ensures
