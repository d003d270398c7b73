-- While the mode is Running nothing is written.
use Rattle.control.proofs.TimingLaws.{hears-still}
use mathlib.Core.Path.{sym, ap, ◌∙◌}
use Rattle.settings.specs.Mode.{is_running}
use Rattle.control.proofs.timing.hear.Goals as goal

pub returns-then-is_running : goal.returns-then-is_running
returns-then-is_running c = hears-still c.args.words.now (sym (ap is_running c.mode_of.ensures) ∙ sym c.is_running.ensures ∙ c.if-is_running.true) _ _ _
