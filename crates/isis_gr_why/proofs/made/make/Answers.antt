-- Each call is made by its own function, or asks.
use Rattle.isis_gr_why.proofs.MadeLaws.{own-next, same-frames, made-frame, made_other, looked-same, measured-same, flagged-same, waiting-same}
use Rattle.reasons.specs.Why.{gone_by}
use Rattle.reasons.specs.declared.why.Reason.TheVariants.{NotSo, Expired, Released, Cleared}
use mathlib.Core.Path.{refl}
use Rattle.isis_gr_why.proofs.made.make.Goals as goal

pub returns-in-Receive : goal.returns-in-Receive
returns-in-Receive c = made-frame _ _ _ _ _ _ _ _ _ c.in-Receive.is c.receive.ensures

pub returns-in-Tick : goal.returns-in-Tick
unfolding gone_by
returns-in-Tick c = made_other _ _ _ _ _ Expired _ _ c.in-Tick.is (λ k. own-next refl c.tick.ensures) (same-frames refl c.tick.ensures) (λ k. refl) (λ k. refl) (λ k. refl)

pub returns-in-Release : goal.returns-in-Release
unfolding gone_by
returns-in-Release c = made_other _ _ _ _ _ Released _ _ c.in-Release.is (λ k. own-next refl c.release.ensures) (same-frames refl c.release.ensures) (λ k. refl) (λ k. refl) (λ k. refl)

pub returns-in-Clear : goal.returns-in-Clear
unfolding gone_by
returns-in-Clear c = made_other _ _ _ _ _ Cleared _ _ c.in-Clear.is (λ k. own-next refl c.clear.ensures) (same-frames refl c.clear.ensures) (λ k. refl) (λ k. refl) (λ k. refl)

pub returns-in-CsnpComplete : goal.returns-in-CsnpComplete
unfolding gone_by
returns-in-CsnpComplete c = made_other _ _ _ _ _ NotSo _ _ c.in-CsnpComplete.is (λ k. own-next refl c.csnp_complete.ensures) (same-frames refl c.csnp_complete.ensures) (λ k. refl) (λ k. refl) (λ k. refl)

pub returns-in-DatabaseComplete : goal.returns-in-DatabaseComplete
unfolding gone_by
returns-in-DatabaseComplete c = made_other _ _ _ _ _ NotSo _ _ c.in-DatabaseComplete.is (λ k. own-next refl c.database_complete.ensures) (same-frames refl c.database_complete.ensures) (λ k. refl) (λ k. refl) (λ k. refl)

pub returns-in-LookUp : goal.returns-in-LookUp
unfolding gone_by
returns-in-LookUp c = made_other _ _ _ _ _ NotSo _ _ c.in-LookUp.is (λ k. looked-same _ _ k) (λ fs. refl) (λ k. refl) (λ k. refl) (λ k. refl)

pub returns-in-LinkMetric : goal.returns-in-LinkMetric
unfolding gone_by
returns-in-LinkMetric c = made_other _ _ _ _ _ NotSo _ _ c.in-LinkMetric.is (λ k. measured-same _ _) (λ fs. refl) (λ k. refl) (λ k. refl) (λ k. refl)

pub returns-in-NextHello : goal.returns-in-NextHello
unfolding gone_by
returns-in-NextHello c = made_other _ _ _ _ _ NotSo _ _ c.in-NextHello.is (λ k. flagged-same _ _ _) (λ fs. refl) (λ k. refl) (λ k. refl) (λ k. refl)

pub returns-in-Waiting : goal.returns-in-Waiting
unfolding gone_by
returns-in-Waiting c = made_other _ _ _ _ _ NotSo _ _ c.in-Waiting.is (λ k. waiting-same _) (λ fs. refl) (λ k. refl) (λ k. refl) (λ k. refl)
