-- A mask's number is the mask.
use Rattle.isis_gr.proofs.NumberLaws.{mask-bits_of}
use native.Mathlib.Omega.{arith}
use Rattle.isis_gr.proofs.answers.set_up_word.Goals as goal

pub returns-in-Ok : goal.returns-in-Ok
returns-in-Ok c =
    let h = mask-bits_of 16 c.in-Ok.hellos.t1s (omega arith) in
    rw c.in-Ok.is (omega arith)
