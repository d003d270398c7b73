-- The control words are put back.
use Rattle.own_words.proofs.SetupLaws.{begins}
use native.Mathlib.Omega.{arith}
use Rattle.own_words.proofs.setup.begin_in.Goals as goal

pub returns : goal.returns
returns c =
    let x = c.begin in
    begins c.args.gateway.now x.new.words c.args.s _ c.requires.0 (omega (arith, x.auto.words)) x.ensures
