-- A T1's tick by cases.
use Prim.Native.Nat.{ℕ, ◌+◌, ◌<◌}
use mathlib.Core.Bool.{true, false}
use mathlib.Core.Path.{◌≡◌, refl}
use borrow.Author.Tests.{ltb-true}
use Rattle.basics.proofs.BoolLaws.{and_right}
use Rattle.settings.specs.declared.lengths.Lengths.{Lengths}
use Rattle.timer_parts.specs.declared.t1.T1.{T1}
use Rattle.timer_parts.specs.T1.{due, hello_due, tick_t1}

-- a hello is ordered only below N, so that the count of expiries fits an octet
pub hello-tries : (s : Lengths) (clock : ℕ) (t : T1) → hello_due s clock t ≡ true → t.entry.tries + 1 < s.tries
unfolding hello_due
hello-tries s clock t h = ltb-true _ _ (and_right (due clock t) _ h)

-- what is not due stays as it is, and orders none
module _ (s : Lengths) (clock : ℕ) (t : T1) (e : due clock t ≡ false) where
  pub hello-not-due : hello_due s clock t ≡ false
  unfolding hello_due
  hello-not-due = rw e refl

  pub tick-not-due : tick_t1 s clock t ≡ t
  unfolding tick_t1
  tick-not-due = rw (hello-not-due, e) refl
