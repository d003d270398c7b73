-- The T1 step, then the steps of the head; then the call is settled.
use mathlib.Core.Path.{ap, ◌∙◌}
use Prim.Native.Nat.{ℕ}
use Rattle.timers.specs.Timers.{to_t3}
use Rattle.timers.specs.Hellos.{ordering, hello_bits, again_flags}
use Rattle.timers.specs.Memory.{entry_at, timers_of}
use Rattle.timers.proofs.TimersLaws.{closes, ticks, to_t3-is}
use Rattle.timers.proofs.events.tick_timers.Goals as goal

pub returns : goal.returns
returns c = let a = c.args in
    let x = c.tick_t1s-m in
    let e = entry_at a.words.now in
    let f = entry_at x.new.words in
    let mid = to_t3-is a.v a.s a.clock x.result.mask a.h e f _ _ x.ensures.0 (c.with_mask.ensures a.v f) (c.tick_head.ensures f) in
    ticks a.v a.s a.clock a.h e _ _ _ (closes (to_t3 a.s a.clock) (timers_of a.v a.h e) _ _ _ mid (c.settle-end.ensures e f))
    (c.order_hellos.ensures ∙ ap (λ (n : ℕ). ordering n (hello_bits x.result.hellos)) c.again_flags.ensures
    ∙ ap (ordering (again_flags a.h.mode)) x.ensures.1)
