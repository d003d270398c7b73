-- The digits are packed as `head_in` unpacks them.
use native.Mathlib.Omega.{arith}
use Rattle.control.proofs.HeadLaws.{head-back}
use Rattle.control.proofs.head.head_word.Goals as goal

pub returns : goal.returns
returns c = head-back c.args.h _ _ _ _ _ _ c.mode_digit.ensures c.timer_digit.ensures c.digit.ensures c.timer_digit-2.ensures c.digit-2.ensures c.t3_digit.ensures (omega arith)
