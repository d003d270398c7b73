-- The invariant: the fault is that of the circuits from i on.
use native.Mathlib.Omega.{arith}
use mathlib.Core.Path.{ap, sym, ◌∙◌}
use Prim.Native.Nat.{ℕ, ◌+◌, ◌*◌}
use Rattle.isis_gr.proofs.FaultLaws.{faults-end, faults-skip, faults-here}
use Rattle.isis_gr.proofs.faults.circuits_fault.Goals as goal

pub returns-then-fault-ne0 : goal.returns-then-fault-ne0
returns-then-fault-ne0 c =
    let l = c.loop-i in
    let a = c.args in
    let f = c.circuit_fault-fault.ensures.0 in
    ap (λ (x : ℕ). x + 256 * (l.i + 1)) f ∙ sym (l.invariant ∙ faults-here a.s.now a.count l.i (omega arith) c.loop-i-test.true (λ z. c.if-fault-ne0.true (f ∙ z)))

pub loop-i-preserved : goal.loop-i-preserved
loop-i-preserved c =
    let l = c.loop-i in
    let a = c.args in
    (l.invariant ∙ faults-skip a.s.now a.count l.i (omega arith) c.loop-i-test.true (sym c.circuit_fault-fault.ensures.0 ∙ c.if-fault-ne0.false))

pub returns : goal.returns
returns c =
    let l = c.loop-i in
    let a = c.args in
    sym (l.invariant ∙ faults-end a.s.now a.count l.i (omega arith) (omega arith))
