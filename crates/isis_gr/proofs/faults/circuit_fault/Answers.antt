-- Each test is the definition's.
use Rattle.isis_gr.proofs.FaultLaws.{circuit-fault-is}
use mathlib.Core.Path.{refl, ◌∙◌}
use Rattle.isis_gr.proofs.faults.circuit_fault.Goals as goal

pub returns : goal.returns
returns c =
    let s = c.args in (
      circuit-fault-is s.s.now s.at refl c.from.ensures c.is_between-levels.ensures c.from-2.ensures
          c.is_between-priority.ensures (c.from-3.ensures ∙ c.two.ensures) c.is_between-hold.ensures
          c.four.ensures c.is_between-metric.ensures c.or_else-fifth.ensures.0 c.or_else-fourth.ensures.0
          c.or_else-third.ensures.0 c.or_else-second.ensures.0 c.or_else.ensures.0,
      c.or_else.ensures.1,
    )
