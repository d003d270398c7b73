-- The rule's outcome decides; by the law `has-state` a value that breaks none has its first octet.
use mathlib.Core.Path.{sym, ◌∙◌}
use Rattle.hello.proofs.ReadLaws.{has-state}
use Rattle.hello.proofs.three_way.check_three_way.Goals as goal

pub bounds-v-0 : goal.bounds-v-0
bounds-v-0 c = has-state _ (sym c.is_bad_three_way.ensures ∙ c.if-is_bad_three_way.false)
