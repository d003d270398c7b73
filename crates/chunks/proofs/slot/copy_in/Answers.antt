-- The invariant: the octets before i are pasted.
use lib.Seq.{paste-suc}
use lib.ListN.{length-set}
use native.Mathlib.Numerals.{add-one}
use native.Mathlib.Omega.{arith}
use Rattle.chunks.proofs.slot.copy_in.Goals as goal

pub loop-i-preserved : goal.loop-i-preserved
loop-i-preserved c = let l = c.loop-i in let a = c.args in
    (simp length-set l.invariant.0, rw (l.invariant.1, add-one l.i) (paste-suc a.frame.now a.at a.octets.now l.i 0 (omega arith) (omega arith)))
