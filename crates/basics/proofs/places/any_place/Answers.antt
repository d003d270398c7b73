-- Only 0 has no digit set.
use Rattle.basics.specs.Mask.{t1_places}
use mathlib.Core.Path.{sym}
use native.Mathlib.Omega.{arith}
use Rattle.basics.proofs.MaskLaws.{any_true-zero}
use Rattle.basics.proofs.places.any_place.Goals as goal

pub returns : goal.returns
returns c = sym (any_true-zero t1_places c.args.m (omega arith))
