-- The control words put back have the circuit, and the room's an empty room.
use Rattle.control.specs.Words.{control_words}
use Rattle.slots.specs.Slots.{room_words}
use Rattle.own_words.specs.Words.{room_place}
use Rattle.own_words.proofs.SetupLaws.{puts}
use Rattle.own_words.proofs.WordLaws.{length-common}
use borrow.Rule.Slice.PartMut.{put_mid, mid_len}
use lib.ListN.{length}
use mathlib.Core.Path.{◌≡◌, ◌∙◌}
use native.Mathlib.Omega.{arith}
use Prim.Native.Nat.{◌+◌}
use Rattle.own_words.proofs.setup.put_in.Goals as goal

pub returns : goal.returns
returns c =
    let a = c.args in
    let x = c.store_circuit in
    let y = c.open_room in
    let lu : length x.new.words ≡ control_words = omega (arith, x.auto.words) in
    let ws1 = put_mid 0 control_words a.gateway.now x.new.words in
    let len1 = length-common a.gateway.now x.new.words c.requires.0 lu in
    puts a.gateway.now x.new.words y.new.words a.i a.s c.requires.0 lu c.requires.1
    (y.auto.words ∙ mid_len (room_place a.i) (room_place a.i + room_words) ws1 (omega (arith, len1, c.requires.1))) x.ensures.0 x.ensures.1 y.ensures
