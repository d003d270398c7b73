-- The entries below i are filled.
use mathlib.Core.Path.{◌≡◌}
use Prim.Native.Nat.{ℕ, ◌<◌}
use Rattle.timer_parts.specs.T1.{start_entry}
use Rattle.timers.specs.Memory.{entry_at}
use Rattle.timers.proofs.entries.fill_entries.Given as goal

abbrev pub invariant-loop-i : goal.invariant-loop-i
invariant-loop-i l = (j : ℕ) → j < l.i → entry_at l.words j ≡ start_entry l.begun l.deadline
