-- The invariant: the circuits are all in range where those from i on are.
use native.Mathlib.Omega.{arith}
use mathlib.Core.Path.{sym, ap, ◌∙◌}
use Rattle.basics.proofs.ListLaws.{every_here, every-skip, every-end}
use Rattle.settings.specs.Settings.{circuit_ok}
use Rattle.isis_gr.specs.Settings.{circuit_from, settings_from}
use Rattle.isis_gr.proofs.SettingsLaws.{length-circuits, circuit-nth}
use Rattle.isis_gr.proofs.setup.are_circuits_ok.Goals as goal

pub returns-then-not-is_circuit_ok : goal.returns-then-not-is_circuit_ok
returns-then-not-is_circuit_ok c =
    let l = c.loop-i in
    let o = c.args.s.now in
    let e = c.circuit_at.ensures ∙ circuit-nth o l.i (omega arith) in
    sym (l.invariant
    ∙ every_here circuit_ok c.args.count (settings_from o).circuits l.i (omega (arith, c.requires.1, length-circuits o)) (circuit_from o 0) c.loop-i-test.true
    (ap circuit_ok (sym e) ∙ sym c.is_circuit_ok.ensures ∙ c.if-not-is_circuit_ok.true))

pub loop-i-preserved : goal.loop-i-preserved
loop-i-preserved c =
    let l = c.loop-i in
    let o = c.args.s.now in
    let e = c.circuit_at.ensures ∙ circuit-nth o l.i (omega arith) in
    l.invariant
    ∙ every-skip circuit_ok c.args.count (settings_from o).circuits l.i (omega (arith, c.requires.1, length-circuits o)) (circuit_from o 0) c.loop-i-test.true
    (ap circuit_ok (sym e) ∙ sym c.is_circuit_ok.ensures ∙ c.if-not-is_circuit_ok.false)

pub returns : goal.returns
returns c =
    let l = c.loop-i in
    let o = c.args.s.now in
    sym (l.invariant ∙ every-end circuit_ok c.args.count (settings_from o).circuits l.i (omega (arith, c.requires.1, length-circuits o)) (omega arith))
