-- A refusal puts the room back as it was; else the room is put back, and then the orders are given.
use Rattle.own_words.proofs.FrameLaws.{left, taken, held_back, said-back, of-circuit}
use Rattle.own_words.proofs.WordLaws.{length-room}
use Rattle.own_words.specs.Words.{room_place}
use Rattle.slots.specs.Slots.{room_words}
use Rattle.adjacency.specs.declared.record.Key.{Key}
use Rattle.adjacency.proofs.KeysLaws.{key-level}
use Rattle.timer_parts.specs.Heard.{heard_of}
use Rattle.model.specs.declared.answers.Change.{Change}
use borrow.Rule.Slice.PartMut.{mid_len}
use native.Mathlib.Omega.{arith}
use Rattle.std.proofs.lemmas.Result.{err_from_is_err_and}
use mathlib.Core.Path.{sym, ap, ◌∙◌}
use Prim.Native.Nat.{◌+◌, ◌-◌}
use Rattle.own_words.proofs.frame.decide_in.Goals as goal

pub order_in-requires : goal.order_in-requires
order_in-requires c =
    let a = c.args in
    let l = c.accept_in-decided.auto.words ∙ mid_len (room_place (a.n - 1)) (room_place (a.n - 1) + room_words) a.gateway.now (omega (arith, c.requires)) in
    let here = c.here_of-here.ensures in
    let says = c.heard_of-said.ensures ∙ (λ i. heard_of (here i).own (here i).circuit a.frame) in (
      length-room a.gateway.now c.accept_in-decided.new.words c.requires.0 (a.n - 1) (omega (arith, c.requires)) l,
      c.requires.1,
      c.requires.2,
      record {
        says = said-back a.gateway.now a.n a.s a.frame c.accept_in-decided.new.words c.requires.0 c.requires.1 c.requires.2 l c.requires.4 _ says;
        level =
            ap (λ (y : Change). y.level) c.change_of.ensures ∙ ap (λ (k : Key). k.level) c.key_in-key.ensures
            ∙ key-level a.s.kind a.mac a.frame c.requires.5;
      },
    )

pub returns-in_err-after : goal.returns-in_err-after
returns-in_err-after c =
    let a = c.args in
    let p = err_from_is_err_and c.from_residual.result c.from_residual.ensures.1 in
    rw (p.1, p.2) (left a.gateway.now a.n a.s a.mac a.frame a.reply.now c.requires.0 c.requires.1 c.requires.2 _ _ c.here_of-here.ensures
    c.key_in-key.ensures _ c.accept_in-decided.new.words _ _ c.in_err-after.was c.accept_in-decided.ensures)

pub returns : goal.returns
returns c =
    let a = c.args in
    let l = c.accept_in-decided.auto.words ∙ mid_len (room_place (a.n - 1)) (room_place (a.n - 1) + room_words) a.gateway.now (omega (arith, c.requires)) in
    let held = held_back a.gateway.now a.n a.s a.frame c.accept_in-decided.new.words c.requires.0 c.requires.1 c.requires.2 l c.requires.4 in
    let y = c.order_in in
    taken a.gateway.now a.n a.s a.mac a.frame a.reply.now c.requires.0 c.requires.1 c.requires.2 _ _ c.here_of-here.ensures
    c.key_in-key.ensures c.accept_in-decided.new.words _ _ _ _ l y.new.gateway _ _ c.in_ok-after.was c.accept_in-decided.ensures _
    c.change_of.ensures (of-circuit (sym held) y.ensures)
