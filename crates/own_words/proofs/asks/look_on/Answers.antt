-- Refusal 1 for the level, or the record of the room.
use Rattle.own_words.proofs.CallLaws.{looks, looks-not}
use Rattle.own_words.proofs.WordLaws.{along, refuses}
use Rattle.basics.specs.declared.refusal.Refusal.TheVariants.{NoCircuit}
use mathlib.Core.Path.{sym, ◌∙◌}
use Rattle.own_words.proofs.asks.look_on.Goals as goal

pub returns-then-asks_level : goal.returns-then-asks_level
returns-then-asks_level c = let a = c.args in looks a.gateway.now a.n c.requires.0 a.s a.key c.requires.1 c.requires.2 _ _ _ (sym c.asks_level.ensures ∙ c.if-asks_level.true) c.key_on-own.ensures c.found-stood.ensures c.looked_at.ensures

pub returns : goal.returns
returns c = let a = c.args in along (looks-not a.gateway.now a.n c.requires.0 a.s a.key (sym c.asks_level.ensures ∙ c.if-asks_level.false)) (refuses a.gateway.now a.n _ NoCircuit)
