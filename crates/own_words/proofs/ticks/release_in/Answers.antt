-- Refusal 1, or the room's words put back.
use Rattle.slots.specs.Slots.{room_words}
use Rattle.control.specs.Words.{control_words}
use Rattle.own_words.proofs.CallLaws.{releases}
use Rattle.model.specs.Step.{Release}
use borrow.Rule.Slice.PartMut.{mid_len}
use Rattle.own_words.proofs.WordLaws.{along, refuses-all, choice, no-circuit, a-circuit}
use Rattle.own_words.specs.Words.{gateway_of}
use Rattle.control.specs.Common.{InRange}
use Rattle.basics.specs.declared.refusal.Refusal.TheVariants.{NoCircuit}
use Prim.Native.Nat.{◌+◌, ◌-◌, ◌*◌}
use native.Mathlib.Omega.{arith}
use mathlib.Core.Path.{subst, ◌∙◌}
use Rattle.own_words.proofs.ticks.release_in.Goals as goal

pub returns-in_default : goal.returns-in_default
returns-in_default c = let a = c.args in along (no-circuit (gateway_of a.gateway.now) a.n Release (choice a.gateway.now a.n _ _ c.circuit_of.ensures c.in_default.is)) (refuses-all a.gateway.now _ NoCircuit)

pub returns : goal.returns
returns c = let a = c.args in let r = subst (InRange _) c.in-Some.is c.circuit_of.ensures.range in let x = c.release in let at = control_words + room_words * (a.n - 1) in
    along (a-circuit (gateway_of a.gateway.now) a.n Release _ (choice a.gateway.now a.n _ _ c.circuit_of.ensures c.in-Some.is)) (releases a.gateway.now a.n c.requires r.0 r.1 _ x.new.words (x.auto.words ∙ mid_len at (at + room_words) a.gateway.now (omega (arith, c.requires))) x.ensures)
