-- Trailing zeros, halved, give the first circuit with a digit that is set.
use Rattle.basics.specs.Mask.{circuits, t1_places}
use borrow.Author.Tests.{eq-eqb, ne_eqb}
use native.Mathlib.Omega.{arith}
use lib.Count.{trailing_le}
use Rattle.basics.proofs.MaskLaws.{double, trailing-first_pair}
use Rattle.basics.proofs.places.lowest_circuit.Goals as goal

pub returns-then-m-eq0 : goal.returns-then-m-eq0
unfolding double
returns-then-m-eq0 c = rw (trailing-first_pair circuits c.args.m 1 (omega arith), eq-eqb _ _ c.if-m-eq0.true)

pub overflow_cast-result : goal.overflow_cast-result
overflow_cast-result c = omega (arith, trailing_le t1_places c.args.m)

pub overflow_add-result : goal.overflow_add-result
overflow_add-result c = omega (arith, trailing_le t1_places c.args.m)

pub returns : goal.returns
unfolding double
returns c = rw (trailing-first_pair circuits c.args.m 1 (omega arith), ne_eqb _ _ c.if-m-eq0.false)
