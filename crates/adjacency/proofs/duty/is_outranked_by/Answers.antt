-- The level decides, then `rival`.
use Rattle.adjacency.specs.Duty.{outranks}
use borrow.Author.Tests.{eq-eqb, ne_eqb}
use Rattle.adjacency.proofs.duty.is_outranked_by.Goals as goal

pub returns-then-key-own : goal.returns-then-key-own
unfolding outranks
returns-then-key-own c = rw (eq-eqb _ _ c.if-key-own.true) c.is_rival.ensures

pub returns : goal.returns
unfolding outranks
returns c = rw (ne_eqb _ _ c.if-key-own.false)
