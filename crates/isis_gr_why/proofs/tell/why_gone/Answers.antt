-- It stood, and stands no more.
use mathlib.Core.Path.{refl}
use Rattle.reasons.specs.Why.{vanished}
use Rattle.isis_gr_why.proofs.tell.why_gone.Goals as goal

pub returns-in_default : goal.returns-in_default
unfolding vanished
returns-in_default c = λ mac frame b x y t. rw c.in_default.is refl

pub returns-in_default-left : goal.returns-in_default-left
unfolding vanished
returns-in_default-left c = λ mac frame b x y t. rw (c.in-Some.is, c.in_default-left.is) refl

pub returns : goal.returns
unfolding vanished
returns c = λ mac frame b x y t. rw (c.in-Some.is, c.in-None.is) (c.why_went.ensures mac frame b x y t)
