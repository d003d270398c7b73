-- The flags are those of the T1 that was loaded.
use mathlib.Core.Path.{ap, ◌∙◌}
use Rattle.timer_parts.specs.T1.{hello_flags}
use Rattle.timers.specs.Memory.{entry_at}
use Rattle.timers.proofs.TimersLaws.{t1-of}
use Rattle.timers.proofs.events.next_flags.Goals as goal

pub returns : goal.returns
returns c = λ v. let a = c.args in
    c.hello_flags.ensures ∙ ap (hello_flags a.h.mode) (c.load_t1.ensures ∙ t1-of v a.h (entry_at a.words.now) a.i)
