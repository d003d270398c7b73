-- The invariant: the lists that are left, as many as turns, and what was listed before give the reading of the whole.
use Rattle.neighbours.proofs.ListsLaws.{list_on}
use Rattle.neighbours.specs.Lists.{list_read}
use Rattle.tlv.specs.Tlv.{tlvs, of_type}
use Rattle.std.proofs.Common.{◌≡◌, ◌+◌, length}
use Rattle.neighbours.proofs.lists.read_each.Given as goal

abbrev pub invariant-loop : goal.invariant-loop
invariant-loop l =
    (l.count ≡ l.counter + length (of_type 6 (tlvs l.pdu l.at))) × (list_read l.mac (of_type 6 (tlvs l.pdu l.from)) ≡ list_on l.mac l.listed (of_type 6 (tlvs l.pdu l.at)))
