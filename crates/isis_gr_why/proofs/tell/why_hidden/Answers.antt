-- The record after the call decides.
use mathlib.Core.Path.{refl}
use Rattle.reasons.specs.Why.{not_advertised}
use Rattle.isis_gr_why.proofs.tell.why_hidden.Goals as goal

pub returns-in_default : goal.returns-in_default
unfolding not_advertised
returns-in_default c = λ mac frame b x y t. rw c.in_default.is (c.why_unknown.ensures mac frame b x y t)

pub returns-in_default-state : goal.returns-in_default-state
unfolding not_advertised
returns-in_default-state c = λ mac frame b x y t. rw (c.in-Some.is, c.in_default-state.is) refl

pub returns-then-data : goal.returns-then-data
unfolding not_advertised
returns-then-data c = λ mac frame b x y t. rw (c.in-Some.is, c.in-Up.is, c.if-data.true) refl

pub returns : goal.returns
unfolding not_advertised
returns c = λ mac frame b x y t. rw (c.in-Some.is, c.in-Up.is, c.if-data.false) refl
