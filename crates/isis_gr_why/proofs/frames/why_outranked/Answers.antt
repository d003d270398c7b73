-- No circuit, or the duty of its room.
use Rattle.std.specs.Prelude.{None}
use Rattle.isis_gr_why.proofs.SilentLaws.{outranked-by, not-unknown}
use Rattle.own_words.proofs.WordLaws.{choice}
use Rattle.own_words.specs.Words.{gateway_of}
use Rattle.control.specs.Common.{InRange}
use mathlib.Core.Path.{subst, sym, ◌∙◌}
use Rattle.isis_gr_why.proofs.frames.why_outranked.Goals as goal

pub returns-in_default : goal.returns-in_default
returns-in_default c = let a = c.args in λ s h k q. absurd (not-unknown (gateway_of a.before.now) a.n s (choice a.before.now a.n _ _ c.circuit_of.ensures c.in_default.is) k)

pub returns-in-None : goal.returns-in-None
returns-in-None c =
    let a = c.args in
    let r = subst (InRange _) c.in-Some.is c.circuit_of.ensures.range in
    λ s h k q.
    outranked-by a.before.now a.after.now a.n _ (choice a.before.now a.n _ _ c.circuit_of.ensures c.in-Some.is) r.0 r.1 a.level None
    (sym c.in-None.is ∙ c.duty_in.ensures) s h k q

pub returns-in-Some-duty_in : goal.returns-in-Some-duty_in
returns-in-Some-duty_in c =
    let a = c.args in
    let r = subst (InRange _) c.in-Some.is c.circuit_of.ensures.range in
    λ s h k q.
    outranked-by a.before.now a.after.now a.n _ (choice a.before.now a.n _ _ c.circuit_of.ensures c.in-Some.is) r.0 r.1 a.level _
    (sym c.in-Some-duty_in.is ∙ c.duty_in.ensures) s h k q
