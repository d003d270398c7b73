-- The invariant: what is found is of the circuits from i on.
use mathlib.Core.Path.{◌∙◌}
use Rattle.control.proofs.SetupLaws.{serving-fits, serving-step, serving-none}
use Rattle.control.proofs.words.serving_for.Goals as goal

pub loop-i-init : goal.loop-i-init
loop-i-init c = serving-none c.args.words.now c.args.count

pub serve_circuit-found-requires : goal.serve_circuit-found-requires
serve_circuit-found-requires c =
    let l = c.loop-i in
    serving-fits c.args.words.now l.i c.args.count l.found l.invariant c.loop-i-test.true l.auto.i c.requires.1

pub loop-i-preserved : goal.loop-i-preserved
loop-i-preserved c =
    let l = c.loop-i in
    c.serve_circuit-found.ensures
    ∙ serving-step c.args.words.now l.i c.args.count l.found l.invariant c.loop-i-test.true l.auto.i _ c.load_circuit-one.ensures
