-- What is loaded decides.
use Rattle.adjacency.specs.Place.{is_held}
use Rattle.isis_gr_why.proofs.DutyLaws.{duty-held, duty-not-held}
use Rattle.slots.proofs.SlotLaws.{not-held}
use mathlib.Core.Path.{sym, ap, ◌∙◌}
use Rattle.isis_gr_why.proofs.duty.duty_at.Goals as goal

pub returns-in_default : goal.returns-in_default
returns-in_default c = duty-not-held _ _ _ (ap is_held (sym c.load.ensures) ∙ not-held c.load.result c.in_default.not-Held)

pub returns : goal.returns
returns c = c.duty_with.ensures ∙ duty-held _ _ _ _ (sym c.load.ensures ∙ c.in-Held.is)
