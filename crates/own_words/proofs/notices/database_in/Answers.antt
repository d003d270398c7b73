-- Refusal 1 for the level, 11, or the control words put back.
use Rattle.own_words.proofs.CallLaws.{database-off, database-outside, database-taken}
use Rattle.settings.specs.Mode.{is_running}
use native.Mathlib.Omega.{arith}
use mathlib.Core.Path.{sym, ap, ◌∙◌}
use Rattle.own_words.proofs.notices.database_in.Goals as goal

pub returns-then-not-has_level : goal.returns-then-not-has_level
returns-then-not-has_level c = let a = c.args in database-off a.gateway.now a.level _ c.levels_of.ensures (sym c.has_level.ensures ∙ c.if-not-has_level.true)

pub returns-then-is_running : goal.returns-then-is_running
returns-then-is_running c = let a = c.args in database-outside a.gateway.now a.level _ c.levels_of.ensures (sym c.has_level.ensures ∙ c.if-not-has_level.false) (sym (ap is_running c.mode_of.ensures) ∙ sym c.is_running.ensures ∙ c.if-is_running.true)

pub returns : goal.returns
returns c = let a = c.args in let x = c.notice_database-outcome in database-taken a.gateway.now a.level _ c.levels_of.ensures (sym c.has_level.ensures ∙ c.if-not-has_level.false) (sym (ap is_running c.mode_of.ensures) ∙ sym c.is_running.ensures ∙ c.if-is_running.false) _ c.only_level-set.ensures x.new.words c.requires (omega (arith, x.auto.words)) _ x.ensures
