-- The variant that was matched decides `suppressed_by`.
use Rattle.basics.specs.Octets.{has_bits}
use Rattle.adjacency.proofs.marks.is_suppressed_by.Goals as goal

pub returns-in-Absent : goal.returns-in-Absent
unfolding has_bits
returns-in-Absent c = rw c.in-Absent.is
