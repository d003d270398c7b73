-- The link that was matched decides `wrong_of`.
use Rattle.adjacency.specs.Step.{wrong_id}
use Rattle.adjacency.proofs.step.wrong_of.Goals as goal

pub returns : goal.returns
unfolding wrong_id
returns c = rw (c.in-P2p.is, c.is_wrong_system-system.ensures, c.is_wrong_circuit-circuit.ensures)
