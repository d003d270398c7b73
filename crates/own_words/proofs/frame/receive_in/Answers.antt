-- Refusal 1, or the next stage.
use Rattle.own_words.proofs.FrameLaws.{received_is}
use Rattle.own_words.proofs.WordLaws.{along, refuses-all, choice, no-circuit, a-circuit}
use Rattle.own_words.specs.Words.{gateway_of}
use Rattle.basics.specs.Octets.{big}
use Rattle.model.specs.Step.{Receive}
use Rattle.control.specs.Common.{InRange}
use Rattle.basics.specs.declared.refusal.Refusal.TheVariants.{NoCircuit}
use Rattle.control.proofs.CommonLaws.{known_at}
use Rattle.control.specs.Words.{control_words}
use Rattle.basics.specs.Lists.{part}
use mathlib.Core.Path.{sym, subst, ◌∙◌}
use Rattle.own_words.proofs.frame.receive_in.Goals as goal

pub returns-in_default : goal.returns-in_default
returns-in_default c = let a = c.args in
    along (no-circuit (gateway_of a.gateway.now) a.n (Receive (big 6 a.source.now 0) a.frame.now a.reply.now) (choice a.gateway.now a.n _ _ c.circuit_of.ensures c.in_default.is)) (refuses-all a.gateway.now a.reply.now NoCircuit)

pub read_in-requires : goal.read_in-requires
read_in-requires c =
    let chosen = c.circuit_of.ensures in
    let known = c.in-Some.is in
    let r = subst (InRange _) known chosen.range in
    (c.requires.0, r.0, r.1, c.requires.1, known_at (part 0 control_words c.args.gateway.now) c.args.n _ (sym chosen.is ∙ known))

pub returns : goal.returns
returns c = let a = c.args in
    along (received_is (gateway_of a.gateway.now) a.n _ (big 6 a.source.now 0) a.frame.now a.reply.now ∙ a-circuit (gateway_of a.gateway.now) a.n (Receive (big 6 a.source.now 0) a.frame.now a.reply.now) _ (choice a.gateway.now a.n _ _ c.circuit_of.ensures c.in-Some.is)) c.read_in.ensures
