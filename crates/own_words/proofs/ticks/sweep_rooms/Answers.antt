-- The invariant: what is swept_room before i and what is still to sweep make the whole sweep; so the marks.
use Rattle.model.specs.Answers.{lost_bits}
use Rattle.own_words.proofs.CallLaws.{gather-step, gather-end, length-bits}
use Rattle.own_words.proofs.WordLaws.{length-rooms}
use Rattle.own_words.specs.Words.{gateway_of}
use Rattle.model.specs.Step.{swept_room, lapsed}
use Rattle.model.specs.Gateway.{with_rooms, no_room}
use native.Mathlib.Omega.{arith}
use mathlib.Core.Path.{refl, ap, ◌∙◌}
use Rattle.own_words.proofs.ticks.sweep_rooms.Goals as goal

pub loop-i-preserved : goal.loop-i-preserved
loop-i-preserved c = let l = c.loop-i in let t = c.args.clock in let g = gateway_of l.gateway in let x = c.sweep_room in let lr = length-rooms l.gateway in let lb = length-bits l.lost in (
  x.auto.gateway ∙ l.invariant.0,
  rw (x.ensures.1, c.put_bit-lost.ensures) (gather-step no_room (lapsed t) (lost_bits l.lost) g.rooms l.i x.result _ (omega arith) (omega arith) x.ensures.0 ∙ l.invariant.1),
  rw x.ensures.1 (ap (with_rooms g) (gather-step no_room (swept_room t) g.rooms g.rooms l.i _ _ (omega arith) (omega arith) refl) ∙ l.invariant.2),
)

pub returns : goal.returns
returns c = let l = c.loop-i in let t = c.args.clock in let g = gateway_of l.gateway in let lr = length-rooms l.gateway in let lb = length-bits l.lost in (
  gather-end (lapsed t) (lost_bits l.lost) g.rooms l.i (omega arith) (omega arith) ∙ l.invariant.1,
  ap (with_rooms g) (gather-end (swept_room t) g.rooms g.rooms l.i (omega arith) (omega arith)) ∙ l.invariant.2,
)
