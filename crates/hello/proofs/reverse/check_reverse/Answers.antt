-- The rule's outcome decides; a value that keeps it has the five octets that are decoded.
use mathlib.Core.Path.{sym, ◌∙◌}
use borrow.Author.Tests.{ltb-false}
use Rattle.basics.proofs.BoolLaws.{neither}
use Rattle.hello.specs.Reverse.{reverse_bad}
use Rattle.hello.proofs.reverse.check_reverse.Goals as goal

pub decode_reverse-requires : goal.decode_reverse-requires
unfolding reverse_bad
decode_reverse-requires c = ltb-false _ _ (neither _ _ (sym c.is_bad_reverse.ensures ∙ c.if-is_bad_reverse.false)).0
