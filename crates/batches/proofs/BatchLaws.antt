-- The laws of sums, of the smaller of two and of refusals 15 and 16; and what a batch that is not refused has. Assumes nothing.
use Prim.Native.Nat.{ℕ, min}
use native.Mathlib.Omega.{arith}
use mathlib.Core.Path.{◌≡◌, refl}
use mathlib.Core.List.{List}
use lib.Dec.{ltb}
use borrow.Author.Tests.{ltb-true, ltb-false}
use Rattle.std.specs.List.{sum_by}
use Rattle.std.proofs.lemmas.List.Recursion.{is_sum_by}
use Rattle.basics.proofs.BoolLaws.{by-test}
use Rattle.batches.specs.Batch.{sum, smaller}

-- ---- the sum

pub sum-is : (ls : List ℕ) → sum ls ≡ sum_by (λ x. x) ls
unfolding sum
sum-is = is_sum_by sum (λ x. x) refl (λ _ _. refl)

-- ---- the smaller

pub smaller-is : (a b : ℕ) → min a b ≡ smaller a b
unfolding smaller
smaller-is a b = by-test (ltb a b) (λ e. let l = ltb-true a b e in rw e (omega arith)) (λ e. let l = ltb-false a b e in rw e (omega arith))
