-- What the walk found decides `pdu_read`, and its counts are those of the PDU.
use Rattle.hello.proofs.HelloLaws.{at_cut, at-whole}
use Rattle.tlv.proofs.TlvLaws.{walk-is-cut, walk-is-whole, cut-within, is_within}
use Rattle.basics.specs.declared.refusal.Refusal.TheVariants.{TlvPastEnd}
use Prim.Native.Nat.{ℕ}
use native.Mathlib.Omega.{arith}
use mathlib.Core.Path.{sym, ap, ◌∙◌}
use Rattle.hello.proofs.read.read_pdu.Goals as goal
use Rattle.std.specs.Prelude.{Err}

pub position_of-requires : goal.position_of-requires
position_of-requires c = omega (arith, c.requires.0.1, is_within _ _ _ (cut-within _ _) (walk-is-cut _ _ (sym c.walked.ensures ∙ c.in-Err.is)))

pub read_tlvs-requires : goal.read_tlvs-requires
read_tlvs-requires c = (c.requires.0, (walk-is-whole _ _ (sym c.walked.ensures ∙ c.in-Ok.is)).1, c.requires.1)

pub returns-in-Err : goal.returns-in-Err
returns-in-Err c = ap (λ (n : ℕ). Err (TlvPastEnd n)) c.position_of.ensures ∙ sym (at_cut _ _ _ _ (sym c.walked.ensures ∙ c.in-Err.is))

pub returns-in-Ok : goal.returns-in-Ok
returns-in-Ok c = c.read_tlvs.ensures ∙ sym (at-whole _ _ _ _ (sym c.walked.ensures ∙ c.in-Ok.is))
