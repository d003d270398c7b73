-- The two laws of `held_to`, over any limit.
use Prim.Native.Nat.{ℕ, ◌≤◌, ◌<◌}
use mathlib.Core.Path.{◌≡◌}
use borrow.Author.Tests.{le-leb, lt-leb}
use Rattle.metric.specs.Metric.{held_to}

pub held_to-of-le : (limit n : ℕ) → n ≤ limit → held_to limit n ≡ n
unfolding held_to
held_to-of-le limit n h = simp (le-leb n limit h)

pub held_to-of-lt : (limit n : ℕ) → limit < n → held_to limit n ≡ limit
unfolding held_to
held_to-of-lt limit n h = simp (lt-leb n limit h)
