-- A rule is broken, so there is a place, and it lies in the PDU or right behind it.
use Rattle.hello.proofs.FaultLaws.{found-some, layout-some, tlv-within, refuses-at, fit-in}
use Rattle.tlv.proofs.TlvLaws.{is_within}
use Rattle.tlv.specs.Tlv.{is_found}
use Rattle.basics.specs.declared.refusal.Refusal.TheVariants.{BadTlv}
use native.Mathlib.Omega.{arith}
use mathlib.Core.Path.{sym, ap, ◌∙◌}
use Rattle.hello.proofs.faults.bad_tlv.Goals as goal

pub unwrap-layout-requires : goal.unwrap-layout-requires
unwrap-layout-requires c = rw c.select_layout.ensures (layout-some _ c.args.pdu.now c.requires.1)

pub unwrap-at-requires : goal.unwrap-at-requires
unwrap-at-requires c =
    found-some _ (ap is_found (c.tlv_fault.ensures ∙ sym (fit-in _ _ _ c.select_layout.ensures c.unwrap-layout.ensures)) ∙ c.requires.1)

pub position_of-requires : goal.position_of-requires
position_of-requires c = omega (arith, c.requires.0.1, is_within _ _ _ (tlv-within _ _) (sym c.tlv_fault.ensures ∙ c.unwrap-at.ensures))

pub returns : goal.returns
returns c =
    refuses-at BadTlv _ _ _ (fit-in _ _ _ c.select_layout.ensures c.unwrap-layout.ensures ∙ sym c.tlv_fault.ensures ∙ c.unwrap-at.ensures)
    (ap BadTlv c.position_of.ensures)
