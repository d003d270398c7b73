-- The invariant: who has it so far, and then the rest, is who has it of all.
use Rattle.slots.specs.Slots.{table_of}
use Rattle.reasons.specs.Duty.{duty_from, duty_in}
use lib.ListN.{drop}
use mathlib.Core.Path.{◌≡◌}
use Rattle.isis_gr_why.proofs.duty.duty_in.Given as goal

abbrev pub invariant-loop-i : goal.invariant-loop-i
invariant-loop-i l = duty_from l.own l.duty (drop l.i (table_of l.words)) ≡ duty_in l.own (table_of l.words)
