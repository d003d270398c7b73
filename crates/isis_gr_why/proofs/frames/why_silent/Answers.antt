-- The answer of a receive decides.
use Rattle.isis_gr_why.proofs.ToldLaws.{silent-refused}
use mathlib.Core.Path.{refl}
use Rattle.model.specs.Step.{step}
use Rattle.own_words.specs.Words.{gateway_of}
use Rattle.isis_gr_why.proofs.frames.why_silent.Goals as goal

pub returns-in-Err : goal.returns-in-Err
returns-in-Err c = let a = c.args in λ frame b x t n. silent-refused _ _ _ c.in-Frame.is a.mac frame b x _ t _ c.in-Err.is (gateway_of a.before.now) (step (gateway_of a.before.now) x) refl

pub returns-in-Ok : goal.returns-in-Ok
returns-in-Ok c = λ frame b x t n. let u = rw (c.in-Frame.is, c.in-Ok.is) at t in c.why_unordered.ensures frame b x u.0 u.1 n
