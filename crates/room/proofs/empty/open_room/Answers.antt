-- The invariant: what is emptied, joined with what is left of an empty room, is the empty room.
use Rattle.room.proofs.SweepLaws.{empty-step, empty-end}
use mathlib.Core.Path.{◌∙◌}
use native.Mathlib.Omega.{arith}
use Rattle.room.proofs.empty.open_room.Goals as goal

pub loop-i-preserved : goal.loop-i-preserved
loop-i-preserved c =
    let l = c.loop-i in (
      cc,
      rw c.empty_at.ensures (empty-step c.args.kind l.words l.i (omega arith) ∙ l.invariant.1),
    )

pub returns : goal.returns
returns c =
    let l = c.loop-i in
    empty-end c.args.kind l.words l.i (omega arith) ∙ l.invariant.1
