-- Each test is the definition's.
use Rattle.isis_gr.proofs.FaultLaws.{whole-fault-is}
use mathlib.Core.Path.{refl, ◌∙◌}
use Rattle.isis_gr.proofs.faults.whole_fault.Goals as goal

pub returns : goal.returns
returns c =
    let s = c.args in
    whole-fault-is s.s.now (c.from.ensures ∙ c.two.ensures) c.is_between-one.ensures
    (c.from-2.ensures ∙ c.two-2.ensures) c.is_between-other.ensures c.from-3.ensures
    c.is_between-tries.ensures refl c.from-4.ensures c.is_between-count.ensures c.or_else-fifth.ensures.0
    c.or_else-fourth.ensures.0 c.or_else-third.ensures.0 c.or_else-second.ensures.0 c.or_else.ensures.0
