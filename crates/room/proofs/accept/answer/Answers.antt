-- Without a reply the buffer stays; else its octets are written.
use mathlib.Core.Path.{◌∙◌}
use Rattle.room.proofs.AcceptLaws.{written-send}
use Rattle.room.specs.Accept.{written}
use borrow.Author.Rules.{rules}
use Rattle.room.proofs.accept.answer.Goals as goal

pub returns-in_default : goal.returns-in_default
unfolding written
returns-in_default c = search rules

pub returns : goal.returns
returns c = c.write_restart.ensures ∙ written-send _ _ _ _ _ c.in-Some.is
