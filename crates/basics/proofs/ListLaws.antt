-- Laws of lists: a test of every element, as a loop goes through them, and the values of a function.
use Prim.Native.Nat.{ℕ, zero, suc, ◌+◌, ◌<◌, ◌≤◌}
use native.Mathlib.Omega.{arith}
use native.Mathlib.Numerals.{add-one}
use mathlib.Core.Path.{◌≡◌, refl, ap}
use mathlib.Core.Bool.{Bool, true, false}
use mathlib.Core.List.{List}
use lib.ListN.{length, get_or, set, take, drop, drop_of_length-le}
use lib.Seq.{drop-cons, get_or-take, length-take-le}
use Rattle.basics.specs.Lists.{every, tabulate}

-- the first n of a list, from the i-th on
module _ {A : Type 0} (p : A → Bool) (n : ℕ) (t : List A) (i : ℕ) (le : n ≤ length t) where
  pub every_here : (d : A) → i < n → p (get_or t i d) ≡ false → every p (drop i (take n t)) ≡ false
  unfolding every
  every_here d lt e = rw (drop-cons (take n t) i d (rw (length-take-le n t le) lt)) (rw (get_or-take n t i d lt, e) refl)

  pub every-skip : (d : A) → i < n → p (get_or t i d) ≡ true → every p (drop i (take n t)) ≡ every p (drop (i + 1) (take n t))
  unfolding every
  every-skip d lt e = rw (add-one i, drop-cons (take n t) i d (rw (length-take-le n t le) lt)) (rw (get_or-take n t i d lt, e) refl)

  pub every-end : n ≤ i → every p (drop i (take n t)) ≡ true
  unfolding every
  every-end h =
      let q : length (take n t) ≤ i = rw (length-take-le n t le) h in
      rw (drop_of_length-le (take n t) q) refl

module _ {A : Type 0} where
  pub tabulate-same : (f g : ℕ → A) (n : ℕ) → ((j : ℕ) → j < n → f j ≡ g j) → tabulate f n ≡ tabulate g n
  tabulate-same f g zero h = refl
  tabulate-same f g (suc n) h =
      cc (h zero (omega arith), tabulate-same (λ i. f (suc i)) (λ i. g (suc i)) n (λ j lt. h (suc j) (omega arith)))

  pub length-tabulate : (f : ℕ → A) (n : ℕ) → length (tabulate f n) ≡ n
  length-tabulate f zero = refl
  length-tabulate f (suc n) = ap suc (length-tabulate (λ i. f (suc i)) n)

  pub get_or-tabulate : (f : ℕ → A) (n i : ℕ) (d : A) → i < n → get_or (tabulate f n) i d ≡ f i
  get_or-tabulate f zero i d lt = absurd (omega arith)
  get_or-tabulate f (suc n) zero d lt = refl
  get_or-tabulate f (suc n) (suc i) d lt = get_or-tabulate (λ i. f (suc i)) n i d (omega arith)

  -- a function changed at one place
  pub tabulate-set : (f g : ℕ → A) (n i : ℕ) (v : A) → i < n → f i ≡ v → ((j : ℕ) → j < n → (j ≡ i → ⊥) → f j ≡ g j)
      → tabulate f n ≡ set (tabulate g n) i v
  tabulate-set f g zero i v lt e h = absurd (omega arith)
  tabulate-set f g (suc n) zero v lt e h =
      cc (
        e,
        tabulate-same (λ i. f (suc i)) (λ i. g (suc i)) n (λ j lt. h (suc j) (omega arith) (λ (z : suc j ≡ 0). omega arith)),
      )
  tabulate-set f g (suc n) (suc i) v lt e h =
      cc (
        h zero (omega arith) (λ (z : 0 ≡ suc i). omega arith),
        tabulate-set (λ i. f (suc i)) (λ i. g (suc i)) n i v (omega arith) e
            (λ j lj ne. h (suc j) (omega arith) (λ (z : suc j ≡ suc i). ne (omega arith))),
      )
