-- The laws of a mask, over its width n: each way in which the code changes or asks a mask, said of the list of its digits.
use Prim.Native.Nat.{ℕ, zero, suc, ◌+◌, ◌-◌, ◌*◌, ◌/◌, ◌%◌, ◌^◌, ◌<◌, ◌≤◌, min, max}
use mathlib.Core.Path.{◌≡◌, refl, sym, ap, ap₂, ◌∙◌}
use mathlib.Core.Bool.{true, false, cond, not, ◌&&◌, ◌||◌}
use mathlib.Core.List.{List, [], ◌∷◌}
use native.Mathlib.Omega.{arith}
use native.Mathlib.Nat.{pow-suc, add-zero, div-one, mod-eq_of_lt}
use lib.Pow.{pow_pos, pow-lt, shr-shr}
use lib.Dec.{eqb}
use lib.ListN.{set, get_or, length}
use lib.Bits.{bit_and, bit_or, and_step, or_step, or_zero_r, and_mask}
use lib.Count.{ones, ones_step, count_trailing_zeros}
use Rattle.basics.proofs.BoolLaws.{by-test}
use borrow.Author.Tests.{eq-eqb, ne_eqb, eqb-true, eqb-false}
use Rattle.basics.specs.Mask.{bits_of, count_true, any_true, any_shared, first_pair}
use Rattle.std.specs.Prelude.{Some, None}

-- one digit as a Bool
digit : (d : ℕ) → d < 2 → d ≡ cond (eqb d 1) 1 0
digit zero h = refl
digit (suc zero) h = refl
digit (suc (suc d)) h = absurd (omega arith)

half-below : (n m : ℕ) → m < 2 ^ suc n → m / 2 < 2 ^ n
half-below n m h = let e = pow-suc 2 n in omega arith

pub length-bits_of : (n m : ℕ) → length (bits_of n m) ≡ n
unfolding bits_of
length-bits_of zero m = refl
length-bits_of (suc n) m = ap suc (length-bits_of n (m / 2))

-- ones count the true ones
pub ones-count_true : (n m : ℕ) → m < 2 ^ n → ones m ≡ count_true (bits_of n m)
unfolding bits_of count_true ones
ones-count_true zero m h = let z : m ≡ 0 = omega arith in rw z
ones-count_true (suc n) m h =
    ones_step m ∙ ap₂ ◌+◌ (digit (m % 2) (omega arith)) (ones-count_true n (m / 2) (half-below n m h))

halves : (m : ℕ) → (eqb (m % 2) 1 || not (eqb (m / 2) 0)) ≡ not (eqb m 0)
halves m =
    by-test (eqb m 0) (λ e. let z : m ≡ 0 = eqb-true m 0 e in rw z)
    (λ e. by-test (eqb (m % 2) 1) (λ f. rw (f, e))
    (λ f. let z = eqb-false m 0 e in let o = eqb-false (m % 2) 1 f in
    rw (f, ne_eqb (m / 2) 0 (λ (q : m / 2 ≡ 0). omega arith), e)))

-- no digit is set in 0 alone
pub any_true-zero : (n m : ℕ) → m < 2 ^ n → any_true (bits_of n m) ≡ not (eqb m 0)
unfolding bits_of any_true
any_true-zero zero m h = let z : m ≡ 0 = omega arith in rw z
any_true-zero (suc n) m h = rw (any_true-zero n (m / 2) (half-below n m h)) (halves m)

low-zero : (m : ℕ) → eqb (m % 2) 1 ≡ false → m % 2 ≡ 0
low-zero m e = let o = eqb-false (m % 2) 1 e in omega arith

-- trailing zeros, halved, give the first pair with a true one
unfoldable pub double : ℕ → ℕ
double zero = zero
double (suc n) = suc (suc (double n))

pub trailing-first_pair : (n m k : ℕ) → m < 2 ^ double n
    → first_pair (bits_of (double n) m) k ≡ cond (eqb m 0) None (Some (k + count_trailing_zeros (double n) m / 2))
unfolding bits_of first_pair count_trailing_zeros double
trailing-first_pair zero m k h = let z : m ≡ 0 = omega arith in rw z
trailing-first_pair (suc n) m k h =
    by-test (eqb (m % 2) 1)
    (λ e. let o : m % 2 ≡ 1 = eqb-true _ _ e in
    rw (e, ne_eqb m 0 (λ (q : m ≡ 0). omega arith), o) (ap Some (sym (add-zero k))))
    (λ e. let z = low-zero m e in
    by-test (eqb (m / 2 % 2) 1)
    (λ f. let o : m / 2 % 2 ≡ 1 = eqb-true _ _ f in
    rw (e, f, ne_eqb m 0 (λ (q : m ≡ 0). omega arith), z, o) (ap Some (sym (add-zero k))))
    (λ f. let y = low-zero (m / 2) f in
    let ih = trailing-first_pair n (m / 2 / 2) (suc k) (half-below (double n) (m / 2) (half-below (suc (double n)) m h)) in
    rw (e, f, ih, z, y)
    (by-test (eqb m 0)
    (λ g. let q : m ≡ 0 = eqb-true _ _ g in rw (g, eq-eqb (m / 2 / 2) 0 (omega arith)))
    (λ g. let q = eqb-false m 0 g in
    rw (g, ne_eqb (m / 2 / 2) 0 (λ (w : m / 2 / 2 ≡ 0). omega arith))
    (let t = count_trailing_zeros (double n) (m / 2 / 2) in
    let w : suc k + t / 2 ≡ k + suc (suc t) / 2 = omega arith in ap Some w)))))

-- a number's digits from its lowest one and the rest
bits_of-cons : (n a d : ℕ) → d < 2 → bits_of (suc n) (a * 2 + d) ≡ eqb d 1 ∷ bits_of n a
unfolding bits_of
bits_of-cons n a d h =
    let p : (a * 2 + d) % 2 ≡ d = omega arith in
    let q : (a * 2 + d) / 2 ≡ a = omega arith in
    rw (p, q)

max-one : (d : ℕ) → d < 2 → max d 1 ≡ 1
max-one zero h = refl
max-one (suc zero) h = refl
max-one (suc (suc d)) h = absurd (omega arith)

max_none : (d : ℕ) → d < 2 → max d 0 ≡ d
max_none zero h = refl
max_none (suc zero) h = refl
max_none (suc (suc d)) h = absurd (omega arith)

min-one : (d : ℕ) → d < 2 → min d 1 ≡ d
min-one zero h = refl
min-one (suc zero) h = refl
min-one (suc (suc d)) h = absurd (omega arith)

min-none : (d : ℕ) → d < 2 → min d 0 ≡ 0
min-none zero h = refl
min-none (suc zero) h = refl
min-none (suc (suc d)) h = absurd (omega arith)

-- what holds of each two digits
digits : (P : ℕ → ℕ → Type 0) → P 0 0 → P 0 1 → P 1 0 → P 1 1 → (d e : ℕ) → d < 2 → e < 2 → P d e
digits P a b c f zero zero h k = a
digits P a b c f zero (suc zero) h k = b
digits P a b c f zero (suc (suc e)) h k = absurd (omega arith)
digits P a b c f (suc zero) zero h k = c
digits P a b c f (suc zero) (suc zero) h k = f
digits P a b c f (suc zero) (suc (suc e)) h k = absurd (omega arith)
digits P a b c f (suc (suc d)) e h k = absurd (omega arith)

min-both : (d e : ℕ) → d < 2 → e < 2 → eqb (min d e) 1 ≡ (eqb d 1 && eqb e 1)
min-both = digits (λ d e. eqb (min d e) 1 ≡ (eqb d 1 && eqb e 1)) refl refl refl refl

min-lt : (d e : ℕ) → d < 2 → e < 2 → min d e < 2
min-lt = digits (λ d e. min d e < 2) (omega arith) (omega arith) (omega arith) (omega arith)

shared-cons : (n a b : ℕ) → ((eqb (a % 2) 1 && eqb (b % 2) 1) || any_shared (bits_of n (a / 2)) (bits_of n (b / 2)))
    ≡ any_shared (bits_of (suc n) a) (bits_of (suc n) b)
unfolding bits_of any_shared
shared-cons n a b = refl

shared-none : (a b m : ℕ) → any_true (bits_of 0 m) ≡ any_shared (bits_of 0 a) (bits_of 0 b)
unfolding bits_of any_true any_shared
shared-none a b m = refl

-- x & y has a digit where both have it
pub any_true-and : (n a b : ℕ) → any_true (bits_of n (bit_and a b)) ≡ any_shared (bits_of n a) (bits_of n b)
unfolding any_true
any_true-and zero a b = shared-none a b (bit_and a b)
any_true-and (suc n) a b =
    rw (and_step a b, bits_of-cons n (bit_and (a / 2) (b / 2)) (min (a % 2) (b % 2)) (min-lt (a % 2) (b % 2) (omega arith) (omega arith)), min-both (a % 2) (b % 2) (omega arith) (omega arith), any_true-and n (a / 2) (b / 2))
    (shared-cons n a b)

-- x | 1 << i
pub bits_of-or : (n m i : ℕ) → i < n → bits_of n (bit_or m (2 ^ i)) ≡ set (bits_of n m) i true
unfolding bits_of
bits_of-or zero m i h = absurd (omega arith)
bits_of-or (suc n) m zero h = rw (or_step m 1, or_zero_r, max-one (m % 2) (omega arith), bits_of-cons n (m / 2) 1 (omega arith))
bits_of-or (suc n) m (suc i) h =
    let s = pow-suc 2 i in
    let p : 2 ^ suc i / 2 ≡ 2 ^ i = omega arith in
    let q : 2 ^ suc i % 2 ≡ 0 = omega arith in
    rw (or_step m (2 ^ suc i), p, q, max_none (m % 2) (omega arith), bits_of-cons n (bit_or (m / 2) (2 ^ i)) (m % 2) (omega arith), bits_of-or n (m / 2) i (omega arith))

-- x & !(1 << i)
pub bits_of-and-not : (n m i : ℕ) → i < n → m < 2 ^ n → bits_of n (bit_and m (2 ^ n - 1 - 2 ^ i)) ≡ set (bits_of n m) i false
unfolding bits_of
bits_of-and-not zero m i h w = absurd (omega arith)
bits_of-and-not (suc n) m zero h w =
    let s = pow-suc 2 n in
    let o = pow_pos n in
    let p : (2 ^ suc n - 1 - 1) / 2 ≡ 2 ^ n - 1 = omega arith in
    let q : (2 ^ suc n - 1 - 1) % 2 ≡ 0 = omega arith in
    rw (and_step m (2 ^ suc n - 1 - 1), p, q, min-none (m % 2) (omega arith), and_mask (m / 2) n, mod-eq_of_lt (half-below n m w), bits_of-cons n (m / 2) 0 (omega arith))
bits_of-and-not (suc n) m (suc i) h w =
    let s = pow-suc 2 n in
    let r = pow-suc 2 i in
    let l : 2 ^ i < 2 ^ n = pow-lt (omega arith) in
    let p : (2 ^ suc n - 1 - 2 ^ suc i) / 2 ≡ 2 ^ n - 1 - 2 ^ i = omega arith in
    let q : (2 ^ suc n - 1 - 2 ^ suc i) % 2 ≡ 1 = omega arith in
    rw (and_step m (2 ^ suc n - 1 - 2 ^ suc i), p, q, min-one (m % 2) (omega arith), bits_of-cons n (bit_and (m / 2) (2 ^ n - 1 - 2 ^ i)) (m % 2) (omega arith), bits_of-and-not n (m / 2) i (omega arith) (half-below n m w))

-- x >> i & 1
pub get_or-bits_of : (n m i : ℕ) → i < n → get_or (bits_of n m) i false ≡ eqb (m / 2 ^ i % 2) 1
unfolding bits_of
get_or-bits_of zero m i h = absurd (omega arith)
get_or-bits_of (suc n) m zero h = rw div-one
get_or-bits_of (suc n) m (suc i) h =
    let p : m / 2 / 2 ^ i ≡ m / 2 ^ suc i = shr-shr m 1 i ∙ ap (λ (x : ℕ). m / 2 ^ x) (omega arith) in
    rw (get_or-bits_of n (m / 2) i (omega arith), p)

max-either : (d e : ℕ) → d < 2 → e < 2 → eqb (max d e) 1 ≡ (eqb d 1 || eqb e 1)
max-either = digits (λ d e. eqb (max d e) 1 ≡ (eqb d 1 || eqb e 1)) refl refl refl refl

-- x | y, its lowest digit and the rest
or-low : (a b : ℕ) → eqb (bit_or a b % 2) 1 ≡ (eqb (a % 2) 1 || eqb (b % 2) 1)
or-low a b =
    let s = or_step a b in
    let p : bit_or a b % 2 ≡ max (a % 2) (b % 2) = omega arith in
    rw p (max-either (a % 2) (b % 2) (omega arith) (omega arith))

or-half : (a b : ℕ) → bit_or a b / 2 ≡ bit_or (a / 2) (b / 2)
or-half a b = let s = or_step a b in omega arith

-- x | y has a digit where one of them has it
pub get_or-or : (n a b i : ℕ) → get_or (bits_of n (bit_or a b)) i false ≡ (get_or (bits_of n a) i false || get_or (bits_of n b) i false)
unfolding bits_of
get_or-or zero a b i = refl
get_or-or (suc n) a b zero = or-low a b
get_or-or (suc n) a b (suc i) = rw (or-half a b) (get_or-or n (a / 2) (b / 2) i)

-- past a number's width no digit is set
pub get_or-past : (n w m i : ℕ) → m < 2 ^ n → n ≤ i → get_or (bits_of w m) i false ≡ false
unfolding bits_of
get_or-past n zero m i h le = refl
get_or-past zero (suc w) m zero h le = let z : m ≡ 0 = omega arith in rw z
get_or-past (suc n) (suc w) m zero h le = absurd (omega arith)
get_or-past zero (suc w) m (suc i) h le = get_or-past zero w (m / 2) i (omega arith) (omega arith)
get_or-past (suc n) (suc w) m (suc i) h le = let p = pow-suc 2 n in get_or-past n w (m / 2) i (omega arith) (omega arith)

-- ---- two digits for each element of a list

-- the numbers that f gives of a list's elements, each below 4, as digits of one number, the first lowest
unfoldable pub packed : {A : Type 0} → (A → ℕ) → List A → ℕ
packed f [] = 0
packed f (x ∷ l) = f x + 4 * packed f l

bits_of-two : (n b m : ℕ) → b < 4 → bits_of (suc (suc n)) (b + 4 * m) ≡ eqb (b % 2) 1 ∷ eqb (b / 2) 1 ∷ bits_of n m
unfolding bits_of
bits_of-two n b m h =
    let p : (b + 4 * m) % 2 ≡ b % 2 = omega arith in
    let e : (b + 4 * m) / 2 ≡ b / 2 + 2 * m = omega arith in
    let q : (b / 2 + 2 * m) % 2 ≡ b / 2 = omega arith in
    let r : (b / 2 + 2 * m) / 2 ≡ m = omega arith in
    rw (p, e, q, r)

module _ {A : Type 0} (f : A → ℕ) (small : (x : A) → f x < 4) (d : A) where
  pub packed-at : (n : ℕ) (l : List A) (i : ℕ) → i < length l → length l ≤ n
      → (get_or (bits_of (double n) (packed f l)) (2 * i) false ≡ eqb (f (get_or l i d) % 2) 1)
      × (get_or (bits_of (double n) (packed f l)) (2 * i + 1) false ≡ eqb (f (get_or l i d) / 2) 1)
  unfolding packed double
  packed-at n [] i lt le = absurd (omega arith)
  packed-at zero (x ∷ l) i lt le = absurd (omega arith)
  packed-at (suc n) (x ∷ l) zero lt le = rw (bits_of-two (double n) (f x) (packed f l) (small x)) (refl, refl)
  packed-at (suc n) (x ∷ l) (suc i) lt le =
      let p : 2 * suc i ≡ suc (suc (2 * i)) = omega arith in
      let q : 2 * suc i + 1 ≡ suc (suc (2 * i + 1)) = omega arith in
      let ih = packed-at n l i (omega arith) (omega arith) in
      rw (q, p, bits_of-two (double n) (f x) (packed f l) (small x)) ih
