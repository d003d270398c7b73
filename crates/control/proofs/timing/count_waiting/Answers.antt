-- The count that the head means, whatever the entries are.
use Rattle.timers.specs.Timers.{Timers, count_runs}
use Rattle.control.specs.Words.{entries_of, serving_of}
use Rattle.timers.specs.Memory.{entry_at}
use mathlib.Core.Path.{refl, ap, ◌∙◌}
use Rattle.control.proofs.TimingLaws.{timers-now}
use Rattle.control.proofs.timing.count_waiting.Goals as goal

pub returns : goal.returns
returns c = let ws = c.args.words.now in c.count_waiting.ensures (serving_of ws) (entry_at (entries_of ws)) ∙ ap (λ (t : Timers). count_runs t.t1s) (timers-now ws (serving_of ws) _ refl c.load_head.ensures)
