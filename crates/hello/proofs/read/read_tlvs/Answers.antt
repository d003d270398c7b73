-- Each reading that is bad breaks a rule; where none is, each holds its part of the hello.
use Rattle.hello.proofs.FaultLaws.{is-found-in, refused-in}
use Rattle.hello.proofs.HelloLaws.{by-circuit, past-circuit, by-restart, by-reverse, by-link, accepted, link-is-bad, link-is-good, reverse-is-bad, reverse-is-good}
use Rattle.restart_tlv.proofs.RestartLaws.{restart-is-bad, restart-is-good}
use Rattle.basics.specs.declared.refusal.Refusal.TheVariants.{BadTlv}
use Prim.Native.Nat.{ℕ}
use borrow.Author.Tests.{eq-eqb, ne_eqb}
use mathlib.Core.Path.{sym, ap, ◌∙◌}
use Rattle.hello.proofs.read.read_tlvs.Goals as goal
use Rattle.std.specs.Prelude.{Err}

pub returns-then-pdu-eq0 : goal.returns-then-pdu-eq0
returns-then-pdu-eq0 c = ap (λ (n : ℕ). Err (BadTlv n)) c.position_of.ensures ∙ sym (by-circuit _ _ _ (eq-eqb _ _ c.if-pdu-eq0.true))

pub bad_tlv-requires : goal.bad_tlv-requires
bad_tlv-requires c = (c.requires.0, is-found-in _ _ c.requires.2 (by-link _ _ (link-is-bad _ _ _ (sym c.read_link.ensures ∙ c.in_default.is))))

pub returns-in_default : goal.returns-in_default
returns-in_default c = refused-in _ _ c.requires.2 _ c.bad_tlv.ensures _ ∙ sym (past-circuit _ _ _ (ne_eqb _ _ c.if-pdu-eq0.false))

pub bad_tlv-requires-in_default-read_restart : goal.bad_tlv-requires-in_default-read_restart
bad_tlv-requires-in_default-read_restart c = (c.requires.0, is-found-in _ _ c.requires.2 (by-restart _ _ (restart-is-bad _ (sym c.read_restart.ensures ∙ c.in_default-read_restart.is))))

pub returns-in_default-read_restart : goal.returns-in_default-read_restart
returns-in_default-read_restart c = refused-in _ _ c.requires.2 _ c.bad_tlv-in_default-read_restart.ensures _ ∙ sym (past-circuit _ _ _ (ne_eqb _ _ c.if-pdu-eq0.false))

pub bad_tlv-requires-in_default-read_reverse : goal.bad_tlv-requires-in_default-read_reverse
bad_tlv-requires-in_default-read_reverse c = (c.requires.0, is-found-in _ _ c.requires.2 (by-reverse _ _ (reverse-is-bad _ (sym c.read_reverse.ensures ∙ c.in_default-read_reverse.is))))

pub returns-in_default-read_reverse : goal.returns-in_default-read_reverse
returns-in_default-read_reverse c = refused-in _ _ c.requires.2 _ c.bad_tlv-in_default-read_reverse.ensures _ ∙ sym (past-circuit _ _ _ (ne_eqb _ _ c.if-pdu-eq0.false))

pub returns : goal.returns
returns c =
    let k = link-is-good _ _ _ _ (sym c.read_link.ensures ∙ c.in-Ok.is) in
    let r = restart-is-good _ _ (sym c.read_restart.ensures ∙ c.in-Ok-read_restart.is) in
    let m = reverse-is-good _ _ (sym c.read_reverse.ensures ∙ c.in-Ok-read_reverse.is) in
    rw (c.six.ensures, c.two.ensures, r.1, m.1, k.1) (sym (accepted _ _ _ (ne_eqb _ _ c.if-pdu-eq0.false) r.0 m.0 k.0))
