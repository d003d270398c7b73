-- The rooms are swept, and the control words put back.
use Rattle.own_words.proofs.CallLaws.{swept_all}
use native.Mathlib.Omega.{arith}
use mathlib.Core.Path.{◌∙◌}
use Rattle.own_words.proofs.ticks.sweep_all.Goals as goal

pub returns : goal.returns
returns c = let a = c.args in let x = c.sweep_rooms-lost in let y = c.tick-x in swept_all a.gateway.now a.clock x.new.gateway y.new.words _ _ _ (x.auto.gateway ∙ c.requires) (omega (arith, y.auto.words)) x.ensures.0 x.ensures.1 y.ensures
