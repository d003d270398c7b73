-- Without a record the room stays; else it is put in its place.
use Rattle.room.proofs.AcceptLaws.{kept-absent, kept-present}
use mathlib.Core.Path.{sym, ◌∙◌}
use Rattle.room.proofs.accept.keep.Goals as goal

pub returns-in_default : goal.returns-in_default
returns-in_default c = kept-absent _ _ _ c.in_default.is

pub returns : goal.returns
returns c = c.store_state.ensures ∙ sym (c.requires.1.puts _) ∙ kept-present _ _ _ _ c.in-Some.is
