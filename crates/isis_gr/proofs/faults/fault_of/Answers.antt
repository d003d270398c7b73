-- The version, then what is no circuit's, then the circuits.
use Rattle.isis_gr.proofs.FaultLaws.{fault-version, fault-whole, fault-circuits, count-of-fine}
use native.Mathlib.Omega.{arith}
use Rattle.isis_gr.proofs.faults.fault_of.Goals as goal

pub returns-then-version-ne-LAYOUT : goal.returns-then-version-ne-LAYOUT
returns-then-version-ne-LAYOUT c = fault-version c.args.version c.args.s.now c.if-version-ne-LAYOUT.true

pub returns-then-whole-ne0 : goal.returns-then-whole-ne0
returns-then-whole-ne0 c = fault-whole c.args.version c.args.s.now c.if-version-ne-LAYOUT.false c.whole_fault-whole.ensures c.if-whole-ne0.true

pub circuits_fault-requires : goal.circuits_fault-requires
circuits_fault-requires c = (c.requires, omega (arith, count-of-fine c.args.s.now c.whole_fault-whole.ensures c.if-whole-ne0.false, c.from.ensures))

pub returns : goal.returns
returns c = fault-circuits c.args.version c.args.s.now c.if-version-ne-LAYOUT.false c.whole_fault-whole.ensures c.if-whole-ne0.false c.from.ensures c.circuits_fault.ensures
