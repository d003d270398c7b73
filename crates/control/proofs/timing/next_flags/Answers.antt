-- The flags of the T1 that the head and the entries mean.
use Rattle.timers.specs.Timers.{Timers, no_t1}
use Rattle.timer_parts.specs.T1.{hello_flags}
use Rattle.timers.specs.Memory.{timers_of}
use lib.ListN.{get_or}
use mathlib.Core.Path.{refl, ap, ◌∙◌}
use Rattle.control.specs.Words.{serving_of}
use Rattle.control.proofs.TimingLaws.{timers-now}
use Rattle.control.proofs.timing.next_flags.Goals as goal

pub returns : goal.returns
unfolding timers_of
returns c = let a = c.args in c.next_flags.ensures (serving_of a.words.now) ∙ ap (λ (t : Timers). hello_flags t.mode (get_or t.t1s a.i no_t1)) (timers-now a.words.now (serving_of a.words.now) _ refl c.load_head-h.ensures)
