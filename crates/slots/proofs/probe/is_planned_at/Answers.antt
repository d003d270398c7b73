-- Only an UP record is Planned, and of it the mark decides.
use Rattle.adjacency.specs.Place.{meets, planned_state}
use mathlib.Core.Path.{refl, ◌∙◌}
use borrow.Author.Tests.{ne_eqb}
use Rattle.slots.proofs.ProbeLaws.{told-held, told-not-up, planned-up, tag_up}
use Rattle.slots.proofs.probe.is_planned_at.Goals as goal

pub returns-else-w-eq2 : goal.returns-else-w-eq2
returns-else-w-eq2 c =
    ne_eqb _ _ c.if-w-eq2.false ∙ told-not-up c.args.words.now c.args.i c.requires.1 (meets planned_state) refl refl (λ d. refl) c.if-w-eq2.false

pub returns-then-w-eq2 : goal.returns-then-w-eq2
returns-then-w-eq2 c =
    planned-up _ _ c.if-w-eq2.true ∙ told-held c.args.words.now c.args.i c.requires.1 (meets planned_state) refl refl (tag_up _ c.if-w-eq2.true)
