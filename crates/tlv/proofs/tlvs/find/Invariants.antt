-- The invariant: no TLV of the type was passed.
use Rattle.tlv.specs.Tlv.{tlvs, of_type}
use lib.ListN.{length}
use mathlib.Core.Path.{◌≡◌}
use Prim.Native.Nat.{◌-◌}
use Rattle.tlv.proofs.tlvs.find.Given as goal

abbrev pub invariant-loop-at : goal.invariant-loop-at
invariant-loop-at l = of_type l.kind (tlvs l.pdu l.from) ≡ of_type l.kind (tlvs l.pdu l.at)

abbrev pub decreases-loop-at : goal.decreases-loop-at
decreases-loop-at l = length l.pdu - l.at
