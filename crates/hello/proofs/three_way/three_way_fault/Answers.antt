-- By what was found: none, one that breaks the rule, or the one after it.
use Rattle.hello.proofs.FaultLaws.{three-way-some}
use Rattle.tlv.proofs.TlvLaws.{lone-first, lone-second}
use Rattle.hello.specs.ThreeWay.{three_way_bad}
use mathlib.Core.Path.{ap, sym, ◌∙◌}
use Rattle.hello.proofs.three_way.three_way_fault.Goals as goal

pub returns-then-is_bad_three_way : goal.returns-then-is_bad_three_way
returns-then-is_bad_three_way c = let g = c.in-Some.ensures in sym (three-way-some _ _ _ _ g ∙ lone-first _ _ _ _ g three_way_bad (sym (c.is_bad_three_way.ensures ∙ ap three_way_bad c.value_at.ensures) ∙ c.if-is_bad_three_way.true))

pub returns : goal.returns
returns c = let g = c.in-Some.ensures in c.find_after.ensures ∙ sym (three-way-some _ _ _ _ g ∙ lone-second _ _ _ _ g three_way_bad (sym (c.is_bad_three_way.ensures ∙ ap three_way_bad c.value_at.ensures) ∙ c.if-is_bad_three_way.false))
