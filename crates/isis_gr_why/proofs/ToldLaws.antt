-- What the code reads off a call that was made: each branch of its functions is one of these laws.
use Prim.Native.Nat.{ℕ}
use mathlib.Core.Path.{◌≡◌, refl, sym}
use mathlib.Core.Logic.{◌≢◌}
use mathlib.Core.List.{List}
use borrow.Author.Tests.{eq-eqb, ne_eqb}
use Rattle.basics.specs.declared.refusal.Refusal.{Refusal}
use Rattle.model.specs.Answers.{Answer}
use Rattle.model.specs.Gateway.{Gateway}
use Rattle.model.specs.Step.{Call, Outcome}
use Rattle.model.specs.declared.answers.Orders.{Orders}
use Rattle.reasons.specs.Why.{NotSo, NoRecord, Refused, unknown, turned_away, gone_by, no_csnps, unordered}
use Rattle.isis_gr_why.specs.Told.{Tells}
use Rattle.isis_gr_why.specs.declared.made.Made.{Made}
use Rattle.isis_gr_why.specs.declared.made.Made.TheVariants.{Frame}
use Rattle.std.specs.Prelude.{Result, Ok, Err}

-- ---- a receive

module _ (made : Made) (n : ℕ) (a : Result Orders Refusal) (e : made ≡ Frame n a) (mac : ℕ) (frame b : List ℕ) (c : Call) (x : Answer) (t : Tells made mac frame b c x) where
  pub told-frame : Tells (Frame n a) mac frame b c x
  told-frame = rw e at t

  -- a receive never removes a record
  pub went-frame : NotSo ≡ gone_by c
  unfolding gone_by
  went-frame = rw told-frame.0 refl

  pub unknown-accepted : (m : ℕ) (o : Orders) → a ≡ Ok o → NoRecord ≡ unknown m c x
  unfolding turned_away
  unknown-accepted m o d = rw (told-frame.0, sym told-frame.1, d) refl

  module _ (y : Refusal) (d : a ≡ Err y) where
    pub unknown-there : (m : ℕ) → n ≡ m → Refused y ≡ unknown m c x
    unfolding turned_away
    unknown-there m q = rw (told-frame.0, sym told-frame.1, d, eq-eqb n m q) refl

    pub unknown-elsewhere : (m : ℕ) → n ≢ m → NoRecord ≡ unknown m c x
    unfolding turned_away
    unknown-elsewhere m q = rw (told-frame.0, sym told-frame.1, d, ne_eqb n m q) refl

    pub silent-refused : (g : Gateway) (o : Outcome) → o.answer ≡ x → Refused y ≡ no_csnps g c o
    unfolding unordered
    silent-refused g o q = rw told-frame.0 (rw (q, sym told-frame.1, d) refl)
