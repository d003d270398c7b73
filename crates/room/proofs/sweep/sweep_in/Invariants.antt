-- The invariant: of any test that the closure tells, the places before i are swept.
use Rattle.room.specs.Sweep.{Tells}
use Rattle.room.proofs.SweepLaws.{Swept}
use Rattle.slots.specs.Slots.{table_of, room_words}
use Rattle.adjacency.specs.declared.record.State.{State}
use lib.ListN.{length}
use mathlib.Core.Bool.{Bool}
use mathlib.Core.Path.{◌≡◌}
use Rattle.room.proofs.sweep.sweep_in.Given as goal

abbrev pub invariant-loop-i : goal.invariant-loop-i
invariant-loop-i g l = (length l.words ≡ room_words)
    × ((test : State → Bool) → Tells (goal.F-post g l.goes_at) test → Swept test (table_of l.initial.words) l.i l.any (table_of l.words))
