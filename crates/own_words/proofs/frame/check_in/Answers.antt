-- Refusal 7, or the next stage.
use Rattle.own_words.proofs.FrameLaws.{source-wrong, source-right}
use Rattle.own_words.proofs.WordLaws.{along, refuses}
use Rattle.basics.specs.Octets.{big}
use Rattle.basics.specs.declared.refusal.Refusal.TheVariants.{WrongSource}
use mathlib.Core.Path.{sym, ◌∙◌}
use Rattle.own_words.proofs.frame.check_in.Goals as goal

pub returns-then-is_wrong_source : goal.returns-then-is_wrong_source
returns-then-is_wrong_source c = let a = c.args in
    along (source-wrong a.gateway.now a.n a.s (big 6 a.source.now 0) a.frame a.reply.now _ c.system_of-own.ensures (sym c.is_wrong_source.ensures ∙ c.if-is_wrong_source.true)) (refuses a.gateway.now a.n a.reply.now WrongSource)

pub returns : goal.returns
returns c = let a = c.args in
    along (source-right a.gateway.now a.n a.s (big 6 a.source.now 0) a.frame a.reply.now _ c.system_of-own.ensures _ c.six.ensures (sym c.is_wrong_source.ensures ∙ c.if-is_wrong_source.false)) c.decide_in.ensures
