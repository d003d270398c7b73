-- A digit is 0 or 1, and is read back.
use Prim.Native.Nat.{ℕ, ◌<◌, ◌≤◌}
use native.Mathlib.Omega.{arith}
use mathlib.Core.Path.{◌≡◌}
use mathlib.Core.Bool.{Bool, true, false}
use lib.Dec.{eqb}
use borrow.Author.Tests.{eq-eqb, ne_eqb}
use Rattle.basics.specs.Bits.{bit_of}

pub bit_le : (b : Bool) → bit_of b ≤ 1
bit_le true = omega arith
bit_le false = omega arith

pub bit-lt : (b : Bool) → bit_of b < 2
bit-lt b = omega (arith, bit_le b)

pub bit-back : (n : ℕ) (b : Bool) → n ≡ bit_of b → eqb n 1 ≡ b
bit-back n true e = eq-eqb _ _ e
bit-back n false e = ne_eqb _ _ (λ (h : n ≡ 1). omega arith)
