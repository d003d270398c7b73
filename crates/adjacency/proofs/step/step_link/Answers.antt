-- The link that was matched decides `link_step`.
use Rattle.adjacency.specs.Step.{link_step}
use Rattle.adjacency.proofs.StepLaws.{three-way-by}
use mathlib.Core.Path.{◌∙◌}
use Rattle.adjacency.proofs.step.step_link.Goals as goal

pub returns-in-Lan : goal.returns-in-Lan
unfolding link_step
returns-in-Lan c = rw c.in-Lan.is c.step_lan.ensures

pub returns-in-P2p : goal.returns-in-P2p
returns-in-P2p c = c.step_three_way.ensures ∙ three-way-by _ _ _ _ _ c.requires c.in-P2p.is
