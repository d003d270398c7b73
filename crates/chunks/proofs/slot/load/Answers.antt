-- Each arm is a law of pending_of.
use native.Mathlib.Omega.{arith}
use Rattle.chunks.proofs.SlotLaws.{is-idle, is-past, is-begun}
use Rattle.chunks.proofs.slot.load.Goals as goal

pub returns-then-w-eq0 : goal.returns-then-w-eq0
returns-then-w-eq0 c = record { is = is-idle _ c.if-w-eq0.true; range = omega arith }

pub returns-then-w : goal.returns-then-w
returns-then-w c = record { is = is-past _ c.if-w-eq0.false c.if-w.true; range = omega arith }

pub returns : goal.returns
returns c = record { is = is-begun _ c.if-w-eq0.false c.if-w.false; range = (omega arith, omega arith) }
