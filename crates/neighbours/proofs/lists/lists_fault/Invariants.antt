-- The invariant: no list that was passed breaks the rule.
use Rattle.neighbours.specs.Lists.{neighbours_fault}
use Rattle.tlv.specs.Tlv.{tlvs, of_type}
use Rattle.std.proofs.Common.{◌≡◌, length}
use Rattle.neighbours.proofs.lists.lists_fault.Given as goal

abbrev pub invariant-loop-at : goal.invariant-loop-at
invariant-loop-at l = neighbours_fault (of_type 6 (tlvs l.pdu l.from)) ≡ neighbours_fault (of_type 6 (tlvs l.pdu l.at))

abbrev pub decreases-loop-at : goal.decreases-loop-at
decreases-loop-at l = length (of_type 6 (tlvs l.pdu l.at))
