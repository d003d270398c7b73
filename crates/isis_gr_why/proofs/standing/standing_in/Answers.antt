-- The circuit, or none.
use Rattle.isis_gr_why.proofs.StandingLaws.{standing_by, standing-none}
use Rattle.own_words.proofs.WordLaws.{choice}
use Rattle.own_words.specs.Words.{gateway_of}
use mathlib.Core.Path.{◌∙◌}
use Rattle.isis_gr_why.proofs.standing.standing_in.Goals as goal

pub returns-in_default : goal.returns-in_default
returns-in_default c = let a = c.args in standing-none (gateway_of a.words.now) a.n a.key (choice a.words.now a.n _ _ c.circuit_of.ensures c.in_default.is)

pub returns : goal.returns
returns c = let a = c.args in c.standing_on.ensures ∙ standing_by (gateway_of a.words.now) a.n a.key _ (choice a.words.now a.n _ _ c.circuit_of.ensures c.in-Some.is)
