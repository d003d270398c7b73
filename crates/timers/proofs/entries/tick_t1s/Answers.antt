-- The T1s below i have had their tick.
use native.Mathlib.Omega.{arith}
use mathlib.Core.Path.{◌≡◌, refl, ◌∙◌}
use mathlib.Core.Bool.{false}
use lib.ListN.{length, get_or}
use lib.Seq.{get_or-set_other}
use Prim.Native.Nat.{◌≤◌, ◌<◌}
use Rattle.timers.specs.Hellos.{hello_bits}
use Rattle.timer_parts.specs.T1.{tick_t1, hello_due}
use Rattle.timers.specs.Timers.{no_t1}
use Rattle.timers.specs.Memory.{t1s_at}
use Rattle.timers.proofs.T1sLaws.{map-step, map-end, length-joined, length-bits, hello-none}
use Rattle.timers.proofs.entries.tick_t1s.Goals as goal

pub loop-i-init : goal.loop-i-init
loop-i-init c = (refl, refl, λ j q. hello-none j)

pub loop-i-preserved : goal.loop-i-preserved
loop-i-preserved c = let a = c.args in
    let x = c.tick_t1_at-m in
    let t = t1s_at c.loop-i.m.mask c.loop-i.words in
    let g = tick_t1 a.s a.clock in
    let k : c.loop-i.i < length t = rw (length-joined, length-bits) (omega arith) in (
      rw x.ensures.0 (map-step g t t c.loop-i.i no_t1 (g (get_or t c.loop-i.i no_t1)) k k ∙ c.loop-i.invariant.0),
      rw (x.ensures.0, x.ensures.1) (map-step (hello_due a.s a.clock) (hello_bits c.loop-i.m.hellos) t c.loop-i.i no_t1 (g (get_or t c.loop-i.i no_t1)) (rw length-bits (omega arith)) k ∙ c.loop-i.invariant.1),
      λ j q. rw x.ensures.1 (get_or-set_other (hello_bits c.loop-i.m.hellos) c.loop-i.i j _ false (λ (w : j ≡ c.loop-i.i). omega arith) ∙ c.loop-i.invariant.2 j (omega arith)),
    )

pub returns : goal.returns
returns c = let l = c.loop-i in
    let a = c.args in
    let t = t1s_at l.m.mask l.words in
    let k : length t ≤ l.i = rw (length-joined, length-bits) (omega arith) in (
      map-end (tick_t1 a.s a.clock) t t l.i no_t1 no_t1 k k ∙ l.invariant.0,
      map-end (hello_due a.s a.clock) (hello_bits l.m.hellos) t l.i no_t1 no_t1 (rw length-bits (omega arith)) k ∙ l.invariant.1,
    )
