-- The question decides; the memory after the call is that of its step.
use Rattle.model.specs.Gateway.{Gateway}
use Rattle.model.specs.Step.{step}
use Rattle.own_words.specs.Words.{gateway_of}
use Rattle.reasons.specs.Why.{standing, not_advertised, vanished, why_of}
use mathlib.Core.Path.{ap, ◌∙◌}
use Rattle.isis_gr_why.proofs.call.tell.Goals as goal

pub returns-in-NotAdvertised : goal.returns-in-NotAdvertised
unfolding why_of
returns-in-NotAdvertised c =
    let a = c.args in
    λ frame b x t n.
    let left = c.standing_in-found.ensures ∙ ap (λ (g : Gateway). standing g a.circuit a.key) n in
    rw c.in-NotAdvertised.is
    (c.why_hidden.ensures a.mac frame b x _ t ∙ ap (not_advertised a.circuit x (step (gateway_of a.before.now) x).answer) left)

pub returns-in-Vanished : goal.returns-in-Vanished
unfolding why_of
returns-in-Vanished c =
    let a = c.args in
    λ frame b x t n.
    let left = c.standing_in-left.ensures ∙ ap (λ (g : Gateway). standing g a.circuit a.key) n in
    rw c.in-Vanished.is (c.why_gone.ensures a.mac frame b x _ t ∙ (λ i. vanished x (c.standing_in-stood.ensures i) (left i)))

pub returns-in-NoCsnps : goal.returns-in-NoCsnps
unfolding why_of
returns-in-NoCsnps c = λ frame b x t n. rw c.in-NoCsnps.is (c.why_silent.ensures frame b x t n)
