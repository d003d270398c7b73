-- The masks are packed as `serving_in` unpacks them.
use Rattle.control.proofs.PackLaws.{serving-back}
use native.Mathlib.Omega.{arith}
use Rattle.control.proofs.pack.serving_word.Goals as goal

pub returns : goal.returns
returns c = serving-back c.args.v (omega arith) (omega arith)
