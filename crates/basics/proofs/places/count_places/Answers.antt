-- Ones count the digits that are set.
use Rattle.basics.specs.Mask.{t1_places}
use native.Mathlib.Omega.{arith}
use Rattle.basics.proofs.MaskLaws.{ones-count_true}
use Rattle.basics.proofs.places.count_places.Goals as goal

pub returns : goal.returns
returns c = ones-count_true t1_places c.args.m (omega arith)
