-- Laws of the search for a MAC, for the proofs of this crate: it may go by one MAC, by four or by eight, and a MAC is told by its octets
-- in either order.
use Rattle.std.proofs.Common.{◌≡◌, ℕ, zero, suc, ◌+◌, ◌*◌, ◌/◌, ◌%◌, ◌^◌, ◌<◌, ◌≤◌, true, false, ◌||◌, eqb, ltb, List, drop, sym, refl, ap, ◌∙◌, ⊎_elim, le_of_suc-le-suc, not-suc-le-zero, add-zero, eq-or-lt_of_le, pow-suc, arith, get_or-drop, get_or-take, ltb-false, ltb-true, eq-eqb, ne_eqb, eqb-true}
use mathlib.Core.Bool.{or_assoc}
use native.Mathlib.Nat.{pow-zero}
use lib.Arith.{le-zero}
use borrow.Author.Tests.{eqb-false}
use Rattle.basics.specs.Octets.{octet, big, little}
use Rattle.basics.proofs.BoolLaws.{by-test}
use Rattle.basics.proofs.OctetsLaws.{big-mod, big-div, big_lt}
use Rattle.neighbours.specs.Neighbours.{listed_to}
use Rattle.neighbours.specs.Search.{digit, turned, four_at, eight_at, part}

-- ---- MACs of a part of a PDU

pub big-part : (s : List ℕ) (from n k j : ℕ) → j + k ≤ n → big k (part s from n) j ≡ big k s (from + j)
unfolding big
big-part s from n zero j h = refl
big-part s from n (suc k) j h =
    let o : octet (part s from n) (j + k) ≡ octet s (from + (j + k)) = get_or-take n (drop from s) (j + k) 0 (omega arith) ∙ get_or-drop from s (j + k) 0 in
    let a : from + (j + k) ≡ from + j + k = omega arith in
    rw (big-part s from n k j (omega arith), o, a)

module _ (m : ℕ) (s : List ℕ) (from n : ℕ) where
  -- one MAC more, two octets past i
  pub by_one : (k k' i : ℕ) → i + 2 ≡ from + 6 * k → k' ≡ suc k → 6 * k' ≤ n
      → listed_to m (part s from n) k' ≡ (listed_to m (part s from n) k || eqb (big 6 s (i + 2)) m)
  unfolding listed_to
  by_one k k' i p q h = rw (q, big-part s from n 6 (6 * k) (omega arith), ← p)

  -- four more, and eight
  pub by-four : (k k' i : ℕ) → i + 2 ≡ from + 6 * k → k' ≡ k + 4 → 6 * k' ≤ n
      → listed_to m (part s from n) k' ≡ (listed_to m (part s from n) k || four_at s i m)
  unfolding four_at
  by-four k k' i p q h =
      rw (
        by_one (k + 3) k' (i + 18) (omega arith) (omega arith) h,
        by_one (k + 2) (k + 3) (i + 12) (omega arith) (omega arith) (omega arith),
        by_one (k + 1) (k + 2) (i + 6) (omega arith) (omega arith) (omega arith),
        by_one k (k + 1) i p (omega arith) (omega arith),
      )
      (simp or_assoc)

  pub by-eight : (k k' i : ℕ) → i + 2 ≡ from + 6 * k → k' ≡ k + 8 → 6 * k' ≤ n
      → listed_to m (part s from n) k' ≡ (listed_to m (part s from n) k || eight_at s i m)
  unfolding eight_at
  by-eight k k' i p q h = rw (by-four (k + 4) k' (i + 24) (omega arith) (omega arith) h, by-four k (k + 4) i p refl (omega arith)) (simp or_assoc)

-- what is listed among fewer is listed among more
pub listed_more : (m : ℕ) (v : List ℕ) (a b : ℕ) → a ≤ b → listed_to m v a ≡ true → listed_to m v b ≡ true
unfolding listed_to
listed_more m v a zero h e = rw (le-zero h) at e
listed_more m v a (suc b) h e =
    ⊎_elim (λ q. rw q at e) (λ l. rw (listed_more m v a b (le_of_suc-le-suc l) e)) (eq-or-lt_of_le h)

-- ---- the octets of a number

digit_lt : (k m : ℕ) → digit k m < 256
unfolding digit
digit_lt zero m = omega arith
digit_lt (suc k) m = digit_lt k (m / 256)

one-octet : (a b x y : ℕ) → a < 256 → b < 256 → a + 256 * x ≡ b + 256 * y → (a ≡ b) × (x ≡ y)
one-octet a b x y la lb e = (omega arith, omega arith)

pub turned_lt : (n m : ℕ) → turned n m < 256 ^ n
unfolding turned
turned_lt zero m = rw pow-zero (omega arith)
turned_lt (suc n) m = rw pow-suc (omega (arith, digit_lt n m, turned_lt n m))

-- numbers that are alike when turned have the same octets ..
same_digits : (n m m' : ℕ) → turned n m ≡ turned n m' → (k : ℕ) → k < n → digit k m ≡ digit k m'
unfolding turned
same_digits zero m m' e k l = absurd (not-suc-le-zero l)
same_digits (suc n) m m' e k l =
    let h = one-octet (digit n m) (digit n m') (turned n m) (turned n m') (digit_lt n m) (digit_lt n m') e in
    ⊎_elim (λ q. rw q h.0) (λ b. same_digits n m m' h.1 k b) (eq-or-lt_of_le (le_of_suc-le-suc l))

-- .. and numbers of n octets with the same octets are the same
digits-tell : (n m m' : ℕ) → ((k : ℕ) → k < n → digit k m ≡ digit k m') → m < 256 ^ n → m' < 256 ^ n → m ≡ m'
unfolding digit
digits-tell zero m m' h l l' = omega (arith, pow-zero 256)
digits-tell (suc n) m m' h l l' =
    let p : m < 256 ^ n * 256 = rw pow-suc at l in
    let p' : m' < 256 ^ n * 256 = rw pow-suc at l' in
    let high = digits-tell n (m / 256) (m' / 256) (λ k b. h (suc k) (omega arith)) (omega arith) (omega arith) in
    let low : m % 256 ≡ m' % 256 = h zero (omega arith) in
    omega arith

module _ (v : List ℕ) (h : (k : ℕ) → octet v k < 256) where
  digit-big : (at k j w : ℕ) → w ≡ k + suc j → digit k (big w v at) ≡ octet v (at + j)
  unfolding digit
  digit-big at zero j w e = let p : w ≡ suc j = omega arith in rw p (big-mod v at h j)
  digit-big at (suc k) j w e =
      let p : w ≡ suc (k + suc j) = omega arith in
      rw p (ap (digit k) (big-div v at h (k + suc j)) ∙ digit-big at k j (k + suc j) refl)

  -- octets read in one order are those read in the other, turned
  turned-big : (at n j w : ℕ) → w ≡ n + j → turned n (big w v at) ≡ little n v (at + j)
  unfolding turned little
  turned-big at zero j w e = refl
  turned-big at (suc n) j w e =
      let q : at + suc j ≡ at + j + 1 = omega arith in
      rw (digit-big at n j w (omega arith), turned-big at n (suc j) w (omega arith), q)

  -- a MAC is ours just where its octets are ours turned
  pub told-turned : (at m : ℕ) → m < 281474976710656 → eqb (little 6 v at) (turned 6 m) ≡ eqb (big 6 v at) m
  told-turned at m l =
      let t : turned 6 (big 6 v at) ≡ little 6 v at = turned-big at 6 0 6 refl ∙ rw (add-zero at) in
      by-test (eqb (little 6 v at) (turned 6 m))
      (λ e.
      let d = same_digits 6 (big 6 v at) m (t ∙ eqb-true (little 6 v at) (turned 6 m) e) in
      e ∙ sym (eq-eqb (big 6 v at) m (digits-tell 6 (big 6 v at) m d (big_lt v at h 6) l)))
      (λ e.
      e ∙ sym (ne_eqb (big 6 v at) m (λ q. eqb-false (little 6 v at) (turned 6 m) e (sym t ∙ ap (turned 6) q))))

  -- a number that is no MAC is in no list
  pub no-mac : (from n m k : ℕ) → 6 * k ≤ n → 281474976710656 ≤ m → listed_to m (part v from n) k ≡ false
  unfolding listed_to
  no-mac from n m zero b l = refl
  no-mac from n m (suc k) b l =
      rw (
        no-mac from n m k (omega arith) l,
        ne_eqb (big 6 (part v from n) (6 * k)) m (λ e. omega (arith, big-part v from n 6 (6 * k) (omega arith), big_lt v (from + 6 * k) h 6)),
      )

-- ---- the comparison

-- x lies less than 65536 above 65536 * t just where the number above its lowest two octets is t
pub told-above : (x r s l t : ℕ) → x ≡ s + 65536 * l → s < 65536 → t < 281474976710656 → r < 18446744073709551616 → (r + 65536 * t) % 18446744073709551616 ≡ x
    → ltb r 65536 ≡ eqb l t
told-above x r s l t e ls lt lr w =
    by-test (ltb r 65536)
    (λ b. b ∙ sym (eq-eqb l t (let k : r < 65536 = ltb-true r 65536 b in omega arith)))
    (λ b. b ∙ sym (ne_eqb l t (λ q. let k : 65536 ≤ r = ltb-false r 65536 b in omega arith)))
