-- The head is `start_head`, and each entry is as at setup.
use Prim.Native.Nat.{◌+◌}
use mathlib.Core.Path.{ap, ◌∙◌}
use mathlib.Core.Bool.{Bool}
use Rattle.timer_parts.specs.T1.{start_entry}
use Rattle.timers.specs.Memory.{entry_at}
use Rattle.timers.proofs.TimersLaws.{starts}
use Rattle.timers.proofs.events.start_timers.Goals as goal

pub returns : goal.returns
returns c = let a = c.args in
    let x = c.fill_entries in
    starts a.s c.start_head-head.result (entry_at x.new.words) _ c.start_head-head.ensures
    (λ j k. x.ensures j k ∙ ap (λ (b : Bool). start_entry b (a.s.clock + a.s.lengths.t1)) c.is_restarting.ensures)
    c.order_hellos-hellos.ensures
