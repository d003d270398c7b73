-- A chain of tests, the first that holds decides: `search chain` proves a return of a function that tests in the chain's
-- order, for each test's outcome, and what a callee found, stand in the record of what is known there.
use Prim.Native.Nat.{ℕ}
use mathlib.Core.Bool.{Bool, true, false, not, cond, ◌||◌, ◌&&◌}
use mathlib.Core.Path.{◌≡◌}
use lib.Dec.{eqb}
use borrow.Author.Tests.{lt-ltb, le-ltb, eq-eqb, ne_eqb}

pub or-here : (a b : Bool) → a ≡ true → true ≡ (a || b)
or-here a b h = rw h

pub or-skip : (a b r : Bool) → a ≡ false → r ≡ b → r ≡ (a || b)
or-skip a b r h k = rw (h, k)

pub and-here : (a b r : Bool) → a ≡ true → r ≡ b → r ≡ (a && b)
and-here a b r h k = rw (h, k)

pub and-skip : (a b : Bool) → a ≡ false → false ≡ (a && b)
and-skip a b h = rw h

pub not-here : (a : Bool) → a ≡ false → not a ≡ true
not-here a h = rw h

pub not-skip : (a : Bool) → a ≡ true → not a ≡ false
not-skip a h = rw h

module _ {A : Type 0} (b : Bool) (x y r : A) where
  pub cond-here : b ≡ true → r ≡ x → r ≡ cond b x y
  cond-here h k = rw (h, k)

  pub cond-skip : b ≡ false → r ≡ y → r ≡ cond b x y
  cond-skip h k = rw (h, k)

-- a callee's result r is the test, and was this
pub via : (r a b : Bool) → r ≡ a → r ≡ b → a ≡ b
via r a b p q = rw (← p) q

-- a callee's result r is the number tested
module _ (r x k : ℕ) (p : r ≡ x) where
  pub eqb_yes : r ≡ k → eqb x k ≡ true
  eqb_yes q = rw (← p) (eq-eqb r k q)

  pub eqb_no : (r ≡ k → ⊥) → eqb x k ≡ false
  eqb_no q = rw (← p) (ne_eqb r k q)

  pub eqb-both : eqb r k ≡ eqb x k
  eqb-both = rw p

-- tests of the function's own
pub ruleset tests = (cond-here, cond-skip, or-here, or-skip, and-here, and-skip, not-here, not-skip, lt-ltb, le-ltb, eq-eqb, ne_eqb)

-- tests of what callees found
pub ruleset chain = (or-here, or-skip, via, eqb_yes, eqb_no, eqb-both)

-- both
pub ruleset calls = (tests, via)
