-- The room's words put back are its sweep.
use Rattle.slots.specs.Slots.{room_words}
use Rattle.control.specs.Words.{control_words}
use Rattle.own_words.proofs.CallLaws.{lapsed-at}
use borrow.Rule.Slice.PartMut.{mid_len}
use Prim.Native.Nat.{◌+◌, ◌*◌}
use native.Mathlib.Omega.{arith}
use mathlib.Core.Path.{◌∙◌}
use Rattle.own_words.proofs.ticks.sweep_room.Goals as goal

pub returns : goal.returns
returns c = let a = c.args in let x = c.expire in let at = control_words + room_words * a.i in lapsed-at a.gateway.now a.clock a.i c.requires.1 _ x.new.words (rw c.from.ensures at x.ensures) c.requires.0 (x.auto.words ∙ mid_len at (at + room_words) a.gateway.now (omega (arith, c.requires.0)))
