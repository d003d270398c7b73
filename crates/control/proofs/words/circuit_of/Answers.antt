-- The number is 0, past the count, or a circuit's.
use native.Mathlib.Omega.{arith}
use mathlib.Core.Logic.{◌≢◌}
use Rattle.control.proofs.CommonLaws.{chooses-zero, chooses-past, chooses-known}
use Rattle.control.proofs.words.circuit_of.Goals as goal

pub returns-then-n-eq0 : goal.returns-then-n-eq0
returns-then-n-eq0 c = chooses-zero _ _ c.if-n-eq0.true

pub returns-then-count_of-i : goal.returns-then-count_of-i
returns-then-count_of-i c = let a = c.args in let z : a.n ≢ 0 = c.if-n-eq0.false in chooses-past a.words.now a.n (omega arith) (rw (← c.count_of.ensures.0) c.if-count_of-i.true)

pub returns : goal.returns
returns c = let a = c.args in let z : a.n ≢ 0 = c.if-n-eq0.false in let k = c.count_of.ensures in rw c.load_circuit-circuit.ensures (chooses-known a.words.now a.n (omega arith) (rw (← k.0) c.if-count_of-i.false) (rw (← k.0) k.1))
