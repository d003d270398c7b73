-- The invariant: who has it so far, and then the rest, is who has it of all.
use Rattle.isis_gr_why.proofs.DutyLaws.{duty-step, duty-end}
use Rattle.slots.specs.Slots.{table_of}
use Rattle.slots.proofs.SlotLaws.{length-table}
use mathlib.Core.Path.{◌∙◌}
use native.Mathlib.Omega.{arith}
use Rattle.isis_gr_why.proofs.duty.duty_in.Goals as goal

pub loop-i-preserved : goal.loop-i-preserved
loop-i-preserved c =
    let l = c.loop-i in
    let a = c.args in
    let t = table_of a.words.now in
    rw c.duty_at-duty.ensures (duty-step a.own l.duty t l.i (rw length-table (omega arith)) ∙ l.invariant)

pub returns : goal.returns
returns c = let l = c.loop-i in let a = c.args in duty-end a.own l.duty (table_of a.words.now) l.i (rw length-table (omega arith)) ∙ l.invariant
