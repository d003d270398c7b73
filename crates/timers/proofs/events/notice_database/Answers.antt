-- The notice is kept; then the call is settled.
use Rattle.timers.specs.Timers.{notice_t2s}
use Rattle.timers.specs.Memory.{timers_of}
use Rattle.timers.proofs.TimersLaws.{closes}
use Rattle.timers.proofs.events.notice_database.Goals as goal

pub returns : goal.returns
returns c = λ e. let a = c.args in closes (notice_t2s a.n) (timers_of a.v a.h e) _ _ _ (c.notice_t2s.ensures a.v e) (c.settle-end.ensures e e)
