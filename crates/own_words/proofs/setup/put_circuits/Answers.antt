-- The invariant: the circuits before i are put.
use Rattle.basics.specs.Mask.{circuits}
use Rattle.own_words.proofs.SetupLaws.{put_next, put_all}
use lib.ListN.{length}
use mathlib.Core.Path.{◌≡◌, ◌∙◌}
use native.Mathlib.Omega.{arith}
use borrow.Author.Rules.{rules}
use Rattle.own_words.proofs.setup.put_circuits.Goals as goal

pub loop-i-preserved : goal.loop-i-preserved
loop-i-preserved c =
    let l = c.loop-i in
    let all = c.args.all in
    let la : length all ≡ circuits = search rules in
    let x = c.put_in in
    (x.auto.gateway ∙ l.invariant.0, put_next all la l.gateway x.new.gateway l.i _ (omega arith) l.invariant.1 x.ensures)

pub returns : goal.returns
returns c =
    let l = c.loop-i in
    let all = c.args.all in
    let la : length all ≡ circuits = search rules in
    put_all all la l.gateway l.i (omega arith) l.invariant.1
