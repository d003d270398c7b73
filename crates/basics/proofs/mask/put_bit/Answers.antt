-- One digit is set or cleared, and no other changes.
use Rattle.basics.specs.Mask.{circuits}
use native.Mathlib.Omega.{arith}
use Rattle.basics.proofs.MaskLaws.{bits_of-or, bits_of-and-not}
use Rattle.basics.proofs.mask.put_bit.Goals as goal

pub returns-then-on : goal.returns-then-on
returns-then-on c = rw (c.if-on.true, c.bit_of-b.ensures) (bits_of-or circuits _ _ (omega arith))

pub returns-else-on : goal.returns-else-on
returns-else-on c = rw (c.if-on.false, c.bit_of-b.ensures) (bits_of-and-not circuits _ _ (omega arith) (omega arith))
