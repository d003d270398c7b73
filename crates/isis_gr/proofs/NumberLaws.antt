-- The laws of the numbers: a mask's number is the mask.
use Prim.Native.Nat.{ℕ, zero, suc, ◌/◌, ◌%◌, ◌^◌, ◌<◌}
use native.Mathlib.Omega.{arith}
use native.Mathlib.Nat.{pow-suc}
use mathlib.Core.Path.{◌≡◌, refl}
use lib.Dec.{eqb}
use Rattle.basics.specs.Mask.{bits_of}
use Rattle.basics.specs.Bits.{bit_of}
use Rattle.isis_gr.specs.Words.{mask_no}

digit : (d : ℕ) → d < 2 → bit_of (eqb d 1) ≡ d
digit zero h = refl
digit (suc zero) h = refl
digit (suc (suc d)) h = absurd (omega arith)

pub mask-bits_of : (n m : ℕ) → m < 2 ^ n → mask_no (bits_of n m) ≡ m
unfolding bits_of mask_no
mask-bits_of zero m h = omega arith
mask-bits_of (suc n) m h =
    let p = pow-suc 2 n in
    let d = digit (m % 2) (omega arith) in
    let r = mask-bits_of n (m / 2) (omega arith) in
    omega arith
