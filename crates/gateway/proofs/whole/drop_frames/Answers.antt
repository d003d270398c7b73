use Prim.Native.Nat.{◌+◌}
use Rattle.chunks.specs.Words.{slot_words}
use Rattle.gateway.specs.Whole.{slot_place}
use borrow.Rule.Slice.PartMut.{mid_len}
use Rattle.gateway.proofs.PieceLaws.{length-slot, dropped-next, dropped-all}
use mathlib.Core.Path.{◌∙◌}
use native.Mathlib.Omega.{arith}
use Rattle.gateway.proofs.whole.drop_frames.Goals as goal

pub loop-i-preserved : goal.loop-i-preserved
loop-i-preserved c = let l = c.loop-i in
    let x = c.clear in
    let a = slot_place l.i in
    let long = x.auto.slot ∙ mid_len a (a + slot_words) l.gateway (omega arith) in
    (length-slot l.gateway x.new.slot l.invariant.0 l.i (omega arith) long, dropped-next _ l.gateway x.new.slot l.invariant.0 l.i (omega arith) long x.ensures l.invariant.1)

pub returns : goal.returns
returns c = dropped-all _ _ c.loop-i.i (omega arith) c.loop-i.invariant.1
