-- The invariant: no TLV of the type was passed.
use Rattle.tlv.proofs.TlvLaws.{none, none-cut, here, passed}
use native.Mathlib.Omega.{arith}
use mathlib.Core.Path.{◌∙◌}
use Rattle.tlv.proofs.tlvs.find.Goals as goal

pub returns-then-left-lt2 : goal.returns-then-left-lt2
returns-then-left-lt2 c = c.loop-at.invariant ∙ none-cut _ _ c.loop-at-test.true (omega arith) _

pub returns-then-left-len : goal.returns-then-left-len
returns-then-left-len c = c.loop-at.invariant ∙ none-cut _ _ c.loop-at-test.true (omega arith) _

pub returns-then-pdu-at : goal.returns-then-pdu-at
returns-then-pdu-at c =
    record {
      same = c.loop-at.invariant;
      here = here _ _ c.loop-at-test.true (omega arith) _ c.if-pdu-at.true;
      within = omega arith;
    }

pub loop-at-preserved : goal.loop-at-preserved
loop-at-preserved c = rw c.wide-len.ensures.is (c.loop-at.invariant ∙ passed _ _ c.loop-at-test.true (omega arith) _ c.if-pdu-at.false)

pub returns : goal.returns
returns c = c.loop-at.invariant ∙ none _ _ _ c.loop-at-test.false
