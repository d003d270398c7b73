-- One digit is set or cleared, and no other changes.
use Rattle.basics.specs.Mask.{t1_places}
use native.Mathlib.Omega.{arith}
use Rattle.basics.proofs.MaskLaws.{bits_of-or, bits_of-and-not}
use Rattle.basics.proofs.places.put_place.Goals as goal

pub returns-then-on : goal.returns-then-on
returns-then-on c = rw (c.if-on.true, c.place_bit-b.ensures) (bits_of-or t1_places _ _ (omega arith))

pub returns-else-on : goal.returns-else-on
returns-else-on c = rw (c.if-on.false, c.place_bit-b.ensures) (bits_of-and-not t1_places _ _ (omega arith) (omega arith))
