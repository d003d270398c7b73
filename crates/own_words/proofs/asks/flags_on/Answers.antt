-- Refusal 1 for the level, or the flags of its T1.
use mathlib.Core.Path.{sym, ◌∙◌}
use Rattle.basics.specs.declared.refusal.Refusal.TheVariants.{NoCircuit}
use Rattle.own_words.proofs.WordLaws.{along, refuses}
use Rattle.own_words.proofs.CallLaws.{flags-off, flags}
use Rattle.own_words.proofs.asks.flags_on.Goals as goal

pub returns-then-not-has_level : goal.returns-then-not-has_level
returns-then-not-has_level c =
    let a = c.args in
    along (flags-off a.gateway.now a.n c.requires.0 a.s a.level (sym c.has_level.ensures ∙ c.if-not-has_level.true))
    (refuses a.gateway.now a.n _ NoCircuit)

pub returns : goal.returns
returns c =
    let a = c.args in
    flags a.gateway.now a.n c.requires.0 a.s a.level _ _ (sym c.has_level.ensures ∙ c.if-not-has_level.false) c.t1_place-i.ensures.0
    c.next_flags-flags.ensures
