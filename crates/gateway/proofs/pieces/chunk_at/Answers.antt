-- Refusal 1, or the chunk on its circuit's words and octets.
use Prim.Native.Nat.{◌+◌, ◌-◌}
use Rattle.chunks.specs.Words.{slot_words}
use Rattle.gateway.specs.Whole.{slot_place}
use borrow.Rule.Slice.PartMut.{mid_len}
use native.Mathlib.Omega.{arith}
use mathlib.Core.Path.{subst, ◌∙◌}
use Rattle.control.specs.Common.{InRange}
use Rattle.chunks.specs.Chunks.{most_octets}
use Rattle.gateway.specs.Whole.{octets_place}
use Rattle.model.specs.Step.{Chunk}
use Rattle.gateway.proofs.HandLaws.{chosen, no-circuit, chunks}
use Rattle.gateway.proofs.pieces.chunk_at.Goals as goal

pub returns-in_default : goal.returns-in_default
returns-in_default c = let a = c.args in no-circuit a.gateway.now a.frames.now a.n (Chunk a.octets.now) (chosen a.gateway.now a.frames.now a.n _ _ c.circuit_of.ensures c.in_default.is)

pub returns : goal.returns
returns c = let a = c.args in
    let r = subst (InRange _) c.in-Some.is c.circuit_of.ensures.range in
    let x = c.add in
    let at = slot_place (a.n - 1) in
    let f = octets_place (a.n - 1) in
    chunks a.gateway.now a.frames.now a.n r.0 r.1 _ (chosen a.gateway.now a.frames.now a.n _ _ c.circuit_of.ensures c.in-Some.is) a.octets.now
    x.new.slot x.new.frame c.requires.0 c.requires.1 (x.auto.slot ∙ mid_len at (at + slot_words) a.gateway.now (omega (arith, c.requires.0)))
    (x.auto.frame ∙ mid_len f (f + most_octets) a.frames.now (omega (arith, c.requires.1))) _ x.ensures
