-- The digits are packed as `lengths_in` unpacks them.
use native.Mathlib.Omega.{arith}
use Rattle.control.proofs.PackLaws.{lengths-back}
use Rattle.control.proofs.pack.lengths_word.Goals as goal

pub returns : goal.returns
returns c = lengths-back c.args.s (omega arith) (omega arith) (omega arith)
