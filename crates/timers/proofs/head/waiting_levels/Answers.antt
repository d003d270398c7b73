-- A level waits where a digit of its mask is one of a T1 that runs.
use mathlib.Core.Path.{◌∙◌}
use Rattle.basics.specs.Levels.{First, Second}
use Rattle.timers.proofs.TimersLaws.{waits-of}
use Rattle.timers.proofs.head.waiting_levels.Goals as goal

pub returns : goal.returns
returns c = λ e. let a = c.args in
    rw (c.share_place.ensures ∙ waits-of First a.v a.h e, c.share_place-2.ensures ∙ waits-of Second a.v a.h e)
