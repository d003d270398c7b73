-- Refusal 1 for the level, 11, or the control words put back.
use mathlib.Core.Path.{sym, ap, ◌∙◌}
use native.Mathlib.Omega.{arith}
use Rattle.settings.specs.Mode.{is_running}
use Rattle.basics.specs.declared.refusal.Refusal.TheVariants.{NoCircuit, NotRestarting}
use Rattle.own_words.proofs.WordLaws.{along, refuses}
use Rattle.own_words.proofs.CallLaws.{csnp-off, csnp-outside, csnp-taken}
use Rattle.own_words.proofs.notices.csnp_on.Goals as goal

pub returns-then-not-has_level : goal.returns-then-not-has_level
returns-then-not-has_level c =
    let a = c.args in
    along (csnp-off a.gateway.now a.n c.requires.0 a.s a.level (sym c.has_level.ensures ∙ c.if-not-has_level.true))
    (refuses a.gateway.now a.n _ NoCircuit)

pub returns-then-is_running : goal.returns-then-is_running
returns-then-is_running c =
    let a = c.args in
    along
    (csnp-outside a.gateway.now a.n c.requires.0 a.s a.level (sym c.has_level.ensures ∙ c.if-not-has_level.false)
    (sym (ap is_running c.mode_of.ensures) ∙ sym c.is_running.ensures ∙ c.if-is_running.true))
    (refuses a.gateway.now a.n _ NotRestarting)

pub returns : goal.returns
returns c =
    let a = c.args in
    let x = c.notice_csnp-outcome in
    csnp-taken a.gateway.now a.n c.requires.0 a.s a.level (sym c.has_level.ensures ∙ c.if-not-has_level.false)
    (sym (ap is_running c.mode_of.ensures) ∙ sym c.is_running.ensures ∙ c.if-is_running.false) _ c.only_level-set.ensures _ c.t1_place-i.ensures.0 x.new.words
    (omega (arith, x.auto.words)) _ x.ensures
