-- While the mode is Running nothing is written.
use Rattle.settings.specs.Mode.{is_running}
use mathlib.Core.Path.{sym, ap, ◌∙◌}
use Rattle.control.proofs.TimingLaws.{ticks-still}
use Rattle.control.proofs.timing.tick_on.Goals as goal

pub returns-then-is_running : goal.returns-then-is_running
returns-then-is_running c = let m = c.mode_of in ticks-still c.args.words.now (sym (ap is_running m.ensures) ∙ sym c.is_running.ensures ∙ c.if-is_running.true) _
