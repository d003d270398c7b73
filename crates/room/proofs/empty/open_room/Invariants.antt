-- The invariant: what is emptied, joined with what is left of an empty room, is the empty room.
use Rattle.room.specs.Table.{empty_room}
use Rattle.slots.specs.Slots.{table_of, room_words}
use lib.ListN.{length, take, drop}
use mathlib.Core.List.{◌++◌}
use mathlib.Core.Path.{◌≡◌}
use Rattle.room.proofs.empty.open_room.Given as goal

abbrev pub invariant-loop-i : goal.invariant-loop-i
invariant-loop-i l = (length l.words ≡ room_words) × (take l.i (table_of l.words) ++ drop l.i (empty_room l.kind) ≡ empty_room l.kind)
