-- Only an UP record at our level outranks us, and of it `outranks` decides.
use mathlib.Core.Path.{refl, sym, ◌∙◌}
use Rattle.slots.proofs.ProbeLaws.{record_at, told-false, told-not-up, outranks-init, outranks-level}
use Rattle.adjacency.specs.Place.{outranked_at}
use Rattle.slots.proofs.probe.is_outranked_at.Goals as goal
use Rattle.slots.proofs.probe.is_outranked_at.Goals.{then-w-ne2-via-then-w-ne2, then-w-ne2-via-else-w-ne2+then-w-from}

pub returns-then-w-ne2 : goal.returns-then-w-ne2
returns-then-w-ne2 c =
    let a = c.args in
    let r = record_at a.words.now a.i in
    elim c.then-w-ne2.branch [
      | then-w-ne2-via-then-w-ne2 w ↦
          told-not-up a.words.now a.i c.requires.1 (outranked_at a.rank) refl refl (λ d. outranks-init a.rank r.key d) w.if-w-ne2.true
      | then-w-ne2-via-else-w-ne2+then-w-from w ↦
          told-false a.words.now a.i c.requires.1 (outranked_at a.rank) refl refl (outranks-level a.rank r (λ z. w.if-w-from.true (z ∙ sym w.from.ensures)))
    ]
