-- The law `told-true`: of a place that holds a record it is true.
use Rattle.adjacency.specs.Place.{is_held}
use mathlib.Core.Path.{refl, ◌∙◌}
use Rattle.slots.proofs.ProbeLaws.{told-true}
use Rattle.slots.proofs.probe.is_held_at.Goals as goal

pub returns : goal.returns
returns c =
    c.is_held_word.ensures ∙ told-true c.args.words.now c.args.i c.requires.1 is_held refl refl refl
