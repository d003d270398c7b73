-- The law `begun`.
use native.Mathlib.Omega.{arith}
use Rattle.chunks.proofs.SlotLaws.{begun}
use Rattle.chunks.proofs.slot.begin.Goals as goal

pub returns : goal.returns
returns c = begun c.args.slot.now c.requires.0 c.args.source.now (λ k. omega (arith, c.type_inv.source k)) _ c.six.ensures
