-- By the kind.
use mathlib.Core.Path.{refl}
use Rattle.adjacency.specs.Keys.{key_on}
use borrow.Author.Rules.{rules}
use Rattle.adjacency.proofs.keys.key_on.Goals as goal

pub returns-in-Lan : goal.returns-in-Lan
unfolding key_on
returns-in-Lan c = search rules

pub returns-in-P2p : goal.returns-in-P2p
unfolding key_on
returns-in-P2p c = rw c.in-P2p.is refl
