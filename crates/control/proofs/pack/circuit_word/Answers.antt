-- The digits are packed as `circuit_in` unpacks them.
use native.Mathlib.Omega.{arith}
use Rattle.control.proofs.PackLaws.{circuit-back}
use Rattle.control.proofs.pack.circuit_word.Goals as goal

pub returns : goal.returns
returns c = circuit-back c.args.s _ _ _ c.kind_digit.ensures c.digit.ensures c.digit-2.ensures (omega arith) (omega arith) (omega arith) (omega arith)
