-- The digit at a place, by a shift.
use Rattle.basics.specs.Mask.{t1_places}
use mathlib.Core.Path.{sym}
use native.Mathlib.Omega.{arith}
use Rattle.basics.proofs.MaskLaws.{get_or-bits_of}
use Rattle.basics.proofs.places.has_place.Goals as goal

pub returns : goal.returns
returns c = sym (get_or-bits_of t1_places c.args.m c.args.i (omega arith))
