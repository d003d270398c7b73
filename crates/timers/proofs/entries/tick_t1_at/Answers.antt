-- A T1 that is not due stays as it is; any other is stored after its tick.
use mathlib.Core.Path.{sym, ap, ◌∙◌}
use mathlib.Core.Bool.{false}
use lib.ListN.{set}
use lib.Seq.{set-get_or}
use Rattle.timers.specs.Hellos.{hello_bits}
use Rattle.timers.specs.Timers.{no_t1}
use Rattle.timer_parts.specs.T1.{due}
use Rattle.timer_parts.proofs.T1Laws.{tick-not-due, hello-not-due}
use Rattle.timers.specs.Memory.{t1s_at}
use Rattle.timers.proofs.entries.tick_t1_at.Goals as goal

pub returns-then-not-is_due : goal.returns-then-not-is_due
returns-then-not-is_due c =
    let a = c.args in
    let ts = t1s_at a.m.mask a.words.now in
    let hs = hello_bits a.m.hellos in
    let e = ap (due a.clock) (sym c.load_t1-t.ensures) ∙ sym c.is_due.ensures ∙ c.if-not-is_due.true in (
      sym (ap (set ts a.i) (tick-not-due a.s a.clock _ e) ∙ set-get_or ts a.i no_t1),
      sym (ap (set hs a.i) (hello-not-due a.s a.clock _ e ∙ sym c.requires.2) ∙ set-get_or hs a.i false),
    )
