-- The T1s below i have had their tick.
use mathlib.Core.Path.{◌≡◌}
use mathlib.Core.Bool.{false}
use mathlib.Core.List.{◌++◌, map}
use lib.ListN.{take, drop, get_or}
use Prim.Native.Nat.{ℕ, ◌≤◌}
use Rattle.timers.specs.Hellos.{hello_bits}
use Rattle.timer_parts.specs.T1.{tick_t1, hello_due}
use Rattle.timers.specs.Memory.{t1s_at}
use Rattle.timers.proofs.entries.tick_t1s.Given as goal

abbrev pub invariant-loop-i : goal.invariant-loop-i
invariant-loop-i l =
    (take l.i (t1s_at l.m.mask l.words) ++ map (tick_t1 l.s l.clock) (drop l.i (t1s_at l.m.mask l.words)) ≡ map (tick_t1 l.s l.clock) (t1s_at l.mask l.initial.words))
    × (take l.i (hello_bits l.m.hellos) ++ map (hello_due l.s l.clock) (drop l.i (t1s_at l.m.mask l.words)) ≡ map (hello_due l.s l.clock) (t1s_at l.mask l.initial.words))
    × ((j : ℕ) → l.i ≤ j → get_or (hello_bits l.m.hellos) j false ≡ false)
