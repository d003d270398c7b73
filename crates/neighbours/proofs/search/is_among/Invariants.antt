-- The invariant of both loops: the MAC is not among those before octet i of the PDU. The laws `by-eight` and `by_one` go one turn on.
use Rattle.std.proofs.Common.{◌≡◌, ◌+◌, ◌-◌, ◌/◌, ◌%◌, ◌≤◌, false}
use Rattle.tlv.specs.Tlv.{value_at}
use Rattle.neighbours.specs.Neighbours.{listed_to}
use Rattle.neighbours.proofs.search.is_among.Given as goal

abbrev pub invariant-loop-i : goal.invariant-loop-i
invariant-loop-i l = ((l.i - l.at) % 6 ≡ 0) × (l.at ≤ l.i) × (l.i + 2 ≤ l.next) × (listed_to l.mac (value_at l.pdu l.at) ((l.i - l.at) / 6) ≡ false)

abbrev pub decreases-loop-i : goal.decreases-loop-i
decreases-loop-i l = l.next - l.i

abbrev pub invariant-loop-i-2 : goal.invariant-loop-i-2
invariant-loop-i-2 l = ((l.i - l.at) % 6 ≡ 0) × (l.at ≤ l.i) × (l.i + 2 ≤ l.next) × (listed_to l.mac (value_at l.pdu l.at) ((l.i - l.at) / 6) ≡ false)

abbrev pub decreases-loop-i-2 : goal.decreases-loop-i-2
decreases-loop-i-2 l = l.next - l.i
