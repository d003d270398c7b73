-- One word is stored.
use native.Mathlib.Omega.{arith}
use Rattle.control.proofs.CommonLaws.{clock-set}
use Rattle.control.proofs.words.move_clock.Goals as goal

pub returns : goal.returns
returns c = clock-set c.args.words.now c.args.clock c.requires (omega arith)
