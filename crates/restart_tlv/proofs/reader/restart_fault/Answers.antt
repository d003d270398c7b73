-- By what was found: none, one that breaks the rule, or the one after it.
use Rattle.tlv.proofs.TlvLaws.{lone-none, lone-first, lone-second}
use Rattle.restart_tlv.specs.Restart.{restart_bad}
use mathlib.Core.Path.{ap, sym, ◌∙◌}
use Rattle.restart_tlv.proofs.reader.restart_fault.Goals as goal

pub returns-in_err-at : goal.returns-in_err-at
returns-in_err-at c = rw c.from_residual.ensures (sym (lone-none restart_bad _ c.in_err-at.ensures))

pub returns-then-is_bad_restart : goal.returns-then-is_bad_restart
returns-then-is_bad_restart c = sym (lone-first _ _ _ _ c.in_ok-at.ensures restart_bad (sym (c.is_bad_restart.ensures ∙ ap restart_bad c.value_at.ensures) ∙ c.if-is_bad_restart.true))

pub returns : goal.returns
returns c = c.find_after.ensures ∙ sym (lone-second _ _ _ _ c.in_ok-at.ensures restart_bad (sym (c.is_bad_restart.ensures ∙ ap restart_bad c.value_at.ensures) ∙ c.if-is_bad_restart.false))
