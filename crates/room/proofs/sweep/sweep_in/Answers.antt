-- The laws of one place and of the end.
use Rattle.slots.proofs.SlotLaws.{length-table}
use Rattle.slots.specs.Slots.{table_of}
use Rattle.room.proofs.SweepLaws.{swept-gone, swept-stays, swept-end}
use lib.ListN.{length}
use Prim.Native.Nat.{◌<◌}
use native.Mathlib.Omega.{arith}
use mathlib.Core.Path.{sym, ◌∙◌}
use Rattle.room.proofs.sweep.sweep_in.Goals as goal
use Rattle.room.proofs.sweep.sweep_in.Goals.{then-goes_at, else-goes_at}

pub loop-i-preserved : goal.loop-i-preserved
loop-i-preserved g c =
    let l = c.loop-i in
    let t = table_of l.words in
    let lt : l.i < length t = rw length-table (omega arith) in
    elim c.if-goes_at.branch [
      | then-goes_at w ↦ (
        cc,
        λ test tells.
            rw (w.words-is, w.any-is, w.clear.ensures)
            (swept-gone test _ t l.i l.any (l.invariant.1 test tells) lt (sym (tells _ _ _ l.invariant.0 (omega arith) c.goes_at.ensures) ∙ w.if-goes_at.true)),
      )
      | else-goes_at w ↦ (
        cc,
        λ test tells.
            rw (w.words-is, w.any-is)
            (swept-stays test _ t l.i l.any (l.invariant.1 test tells) lt (sym (tells _ _ _ l.invariant.0 (omega arith) c.goes_at.ensures) ∙ w.if-goes_at.false)),
      )
    ]

pub returns : goal.returns
returns g c = λ test tells. swept-end test _ (table_of c.loop-i.words) c.loop-i.i _ (c.loop-i.invariant.1 test tells) (rw length-table (omega arith))
