-- Where no T2 runs, the mask 0 stops every T1.
use Rattle.timers.specs.Timers.{finish, over}
use Rattle.timers.specs.Memory.{timers_of}
use Rattle.timers.proofs.T1sLaws.{joined-stop}
use Rattle.timers.proofs.head.end_restart.Goals as goal

pub returns-then-any_t2 : goal.returns-then-any_t2
unfolding finish over timers_of
returns-then-any_t2 c = λ v e. simp (← c.any_t2.ensures, c.if-any_t2.true)

pub returns-else-any_t2 : goal.returns-else-any_t2
unfolding finish over timers_of
returns-else-any_t2 c = λ v e. simp (← c.any_t2.ensures, c.if-any_t2.false, joined-stop c.args.h.mask e)
