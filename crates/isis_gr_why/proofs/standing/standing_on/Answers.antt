-- The record of the room, or none for the level.
use Rattle.isis_gr_why.proofs.StandingLaws.{stands-not, stands-found}
use mathlib.Core.Path.{sym, ◌∙◌}
use Rattle.isis_gr_why.proofs.standing.standing_on.Goals as goal

pub returns-then-asks_level : goal.returns-then-asks_level
returns-then-asks_level c = let a = c.args in stands-found a.words.now a.n a.s a.key c.requires.1 c.requires.2 _ _ (sym c.asks_level.ensures ∙ c.if-asks_level.true) c.key_on-own.ensures c.found.ensures

pub returns : goal.returns
returns c = let a = c.args in stands-not a.words.now a.n a.s a.key (sym c.asks_level.ensures ∙ c.if-asks_level.false)
