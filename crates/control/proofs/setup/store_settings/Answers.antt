-- Six words are stored; the circuits stay.
use Rattle.control.proofs.SetupLaws.{settings-stored}
use native.Mathlib.Omega.{arith}
use Rattle.control.proofs.setup.store_settings.Goals as goal

pub returns : goal.returns
returns c =
    let w = c.lengths_word in
    let x = c.serving_word in
    settings-stored c.args.words.now c.args.system c.args.clock c.args.count w.result x.result c.requires.0 c.args.lengths c.args.v w.ensures x.ensures (omega arith) c.requires.1
