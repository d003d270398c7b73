-- The masks have a digit in common unless their & is 0.
use Rattle.basics.specs.Mask.{t1_places}
use lib.Bits.{and_le_l}
use mathlib.Core.Path.{sym, ◌∙◌}
use native.Mathlib.Omega.{arith}
use Rattle.basics.proofs.MaskLaws.{any_true-zero, any_true-and}
use Rattle.basics.proofs.places.share_place.Goals as goal

pub returns : goal.returns
returns c = sym (any_true-zero t1_places _ (omega (arith, and_le_l c.args.a c.args.b))) ∙ any_true-and t1_places c.args.a c.args.b
