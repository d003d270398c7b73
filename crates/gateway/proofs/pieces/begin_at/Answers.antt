-- Refusal 1, or the words of the frame are written.
use Prim.Native.Nat.{◌+◌, ◌-◌}
use Rattle.chunks.specs.Words.{slot_words}
use Rattle.gateway.specs.Whole.{slot_place}
use borrow.Rule.Slice.PartMut.{mid_len}
use native.Mathlib.Omega.{arith}
use mathlib.Core.Path.{subst, ◌∙◌}
use Rattle.control.specs.Common.{InRange}
use Rattle.basics.specs.Octets.{big}
use Rattle.model.specs.Step.{Begin}
use Rattle.gateway.proofs.HandLaws.{chosen, no-circuit, begins}
use Rattle.gateway.proofs.pieces.begin_at.Goals as goal

pub returns-in_default : goal.returns-in_default
returns-in_default c = let a = c.args in λ fs. no-circuit a.gateway.now fs a.n (Begin (big 6 a.source.now 0)) (chosen a.gateway.now fs a.n _ _ c.circuit_of.ensures c.in_default.is)

pub returns : goal.returns
returns c = let a = c.args in
    let r = subst (InRange _) c.in-Some.is c.circuit_of.ensures.range in
    let x = c.begin in
    let at = slot_place (a.n - 1) in
    λ fs.
    begins a.gateway.now fs a.n r.0 r.1 _ (chosen a.gateway.now fs a.n _ _ c.circuit_of.ensures c.in-Some.is) c.requires.0 _ x.new.slot
    (x.auto.slot ∙ mid_len at (at + slot_words) a.gateway.now (omega (arith, c.requires.0))) x.ensures
