-- The law `asks-whole`.
use mathlib.Core.Path.{refl}
use Rattle.gateway.proofs.WholeLaws.{asks-whole}
use Rattle.gateway.proofs.whole.waiting_at.Goals as goal

pub returns : goal.returns
returns c = asks-whole _ c.requires _ refl _ _ c.waiting_in.ensures
