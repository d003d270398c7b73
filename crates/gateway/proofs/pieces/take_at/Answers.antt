-- Refusals 1 and 13, or the frame is taken and its words are cleared.
use Prim.Native.Nat.{◌+◌, ◌-◌}
use Rattle.chunks.specs.Words.{slot_words}
use Rattle.gateway.specs.Whole.{slot_place}
use borrow.Rule.Slice.PartMut.{mid_len}
use native.Mathlib.Omega.{arith}
use mathlib.Core.Path.{subst, ◌∙◌}
use Rattle.control.specs.Common.{InRange}
use Rattle.chunks.proofs.SlotLaws.{pending-is, range-is, mac-range}
use Rattle.gateway.proofs.HandLaws.{chosen, takes-nothing, takes_none, takes-frame}
use Rattle.gateway.proofs.pieces.take_at.Goals as goal

pub returns-in_default : goal.returns-in_default
returns-in_default c = let a = c.args in takes-nothing a.gateway.now a.n (λ fs. chosen a.gateway.now fs a.n _ _ c.circuit_of.ensures c.in_default.is)

pub returns-in_default-load : goal.returns-in_default-load
returns-in_default-load c = let a = c.args in
    let r = subst (InRange _) c.in-Some.is c.circuit_of.ensures.range in
    takes_none a.gateway.now a.n r.0 r.1 _ (λ fs. chosen a.gateway.now fs a.n _ _ c.circuit_of.ensures c.in-Some.is) (pending-is c.load.ensures c.in_default-load.is)

pub returns : goal.returns
returns c = let a = c.args in
    let r = subst (InRange _) c.in-Some.is c.circuit_of.ensures.range in
    let x = c.clear in
    let y = c.load.ensures in
    let e = c.in-Some-load.is in
    let at = slot_place (a.n - 1) in
    takes-frame a.gateway.now a.n r.0 r.1 _ (λ fs. chosen a.gateway.now fs a.n _ _ c.circuit_of.ensures c.in-Some.is) c.requires _ _ x.new.slot
    (range-is y e) (mac-range y e) (pending-is y e) (x.auto.slot ∙ mid_len at (at + slot_words) a.gateway.now (omega (arith, c.requires))) x.ensures
