-- Where T3 expires, the mask 0 stops every T1.
use Rattle.timers.specs.Timers.{tick_t3, with_t1s, with_t3}
use Rattle.timers.specs.Memory.{timers_of}
use Rattle.timers.proofs.T1sLaws.{joined-stop}
use Rattle.timers.proofs.head.tick_t3.Goals as goal

pub returns-then-expires_t3 : goal.returns-then-expires_t3
unfolding tick_t3 with_t1s with_t3 timers_of
returns-then-expires_t3 c = λ v e. simp (← c.expires_t3.ensures, c.if-expires_t3.true, joined-stop c.args.h.mask e)

pub returns-else-expires_t3 : goal.returns-else-expires_t3
unfolding tick_t3 with_t1s with_t3 timers_of
returns-else-expires_t3 c = λ v e. simp (← c.expires_t3.ensures, c.if-expires_t3.false)
