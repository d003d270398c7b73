-- The invariant: the circuits before i are put.
use Rattle.own_words.proofs.SetupLaws.{put_next, put_all}
use Rattle.isis_gr.specs.Settings.{circuit_from, settings_from}
use Rattle.isis_gr.proofs.SettingsLaws.{length-circuits, circuit-nth, put_as}
use mathlib.Core.Path.{◌∙◌}
use native.Mathlib.Omega.{arith}
use Rattle.isis_gr.proofs.setup.put_circuits.Goals as goal

pub loop-i-preserved : goal.loop-i-preserved
loop-i-preserved c =
    let l = c.loop-i in
    let o = c.args.s.now in
    let e = c.circuit_at.ensures ∙ circuit-nth o l.i (omega arith) in
    put_next (settings_from o).circuits (length-circuits o) l.gateway c.put_circuit.new.gateway l.i (circuit_from o 0) (omega arith) l.invariant (put_as e c.put_circuit.ensures)

pub returns : goal.returns
returns c =
    let l = c.loop-i in
    let o = c.args.s.now in
    put_all (settings_from o).circuits (length-circuits o) l.gateway l.i (omega arith) l.invariant
