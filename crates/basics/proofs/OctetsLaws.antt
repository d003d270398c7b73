-- Laws of big-endian numbers, over their width. Every proof about a number of octets cites these.
use Prim.Native.Nat.{ℕ, zero, suc, ◌+◌, ◌*◌, ◌%◌, ◌/◌, ◌^◌, ◌<◌}
use mathlib.Core.Path.{◌≡◌, refl, ap, ◌∙◌}
use mathlib.Core.List.{List, [], ◌∷◌, ◌++◌, append_assoc}
use lib.ListN.{length, length-append}
use lib.Seq.{get_or-append-add, get_or_at}
use native.Mathlib.Omega.{arith}
use native.Mathlib.Nat.{add-zero, add_assoc, mul_assoc, mul-one, pow-zero, pow-suc, add-suc}
use Rattle.basics.specs.Octets.{octet, big, little, octets_of}

-- a number of m + n octets is the first m of them, and then n
pub big-add : (m n : ℕ) (s : List ℕ) (at : ℕ) → big (m + n) s at ≡ big m s at * 256 ^ n + big n s (at + m)
unfolding big
big-add m zero s at = rw (add-zero, pow-zero, mul-one, add-zero)
big-add m (suc n) s at = rw (add-suc, big-add m n s at, pow-suc, ← mul_assoc, ← add_assoc) (omega arith)

-- the number of one octet
pub big-one : (s : List ℕ) (at : ℕ) → big 1 s at ≡ octet s at
unfolding big
big-one s at = rw add-zero (omega arith)

module _ (s : List ℕ) (at : ℕ) (h : (k : ℕ) → octet s k < 256) where
  -- the last octet of a number, and the others
  pub big-mod : (n : ℕ) → big (suc n) s at % 256 ≡ octet s (at + n)
  unfolding big
  big-mod n = omega (arith, h (at + n))

  pub big-div : (n : ℕ) → big (suc n) s at / 256 ≡ big n s at
  unfolding big
  big-div n = omega (arith, h (at + n))

  -- a number of n octets is below 256 ^ n
  pub big_lt : (n : ℕ) → big n s at < 256 ^ n
  unfolding big
  big_lt zero = rw pow-zero (omega arith)
  big_lt (suc n) = rw pow-suc (omega (arith, h (at + n), big_lt n))

-- ---- the first octet lowest

-- m octets, and then n
pub little-add : (s : List ℕ) (m n at : ℕ) → little (m + n) s at ≡ little m s at + 256 ^ m * little n s (at + m)
unfolding little
little-add s zero n at =
    let p : 0 + n ≡ n = omega arith in
    rw (p, add-zero at) (omega arith)
little-add s (suc m) n at =
    let p : suc m + n ≡ suc (m + n) = omega arith in
    let q : at + suc m ≡ at + 1 + m = omega arith in
    rw (p, little-add s m n (at + 1), q, pow-suc) (omega arith)

module _ (s : List ℕ) (h : (k : ℕ) → octet s k < 256) where
  pub little-lt : (n at : ℕ) → little n s at < 256 ^ n
  unfolding little
  little-lt zero at = rw pow-zero (omega arith)
  little-lt (suc n) at = rw pow-suc (omega (arith, h at, little-lt n (at + 1)))

  -- two octets read lowest first, turned
  pub turned_two : (at x : ℕ) → x ≡ little 2 s at → x % 256 * 256 + x / 256 ≡ big 2 s at
  unfolding big little
  turned_two at x e =
      let p : x % 256 ≡ octet s at = omega (arith, h at) in
      let q : x / 256 ≡ octet s (at + 1) = omega (arith, h at) in
      rw (add-zero at, p, q) (omega arith)

pub length-octets_of : (n x : ℕ) → length (octets_of n x) ≡ n
unfolding octets_of
length-octets_of zero x = refl
length-octets_of (suc n) x = length-append (octets_of n (x / 256)) (x % 256 ∷ []) ∙ rw (length-octets_of n (x / 256)) (omega arith)

-- a number written as n octets is read back
pub big-octets_of : (n x : ℕ) → x < 256 ^ n → (before after : List ℕ) → big n (before ++ (octets_of n x ++ after)) (length before) ≡ x
unfolding big octets_of
big-octets_of zero x h before after = omega (arith, pow-zero 256)
big-octets_of (suc n) x h before after =
    let p : x < 256 ^ n * 256 = rw pow-suc at h in
    let s = append_assoc (octets_of n (x / 256)) (x % 256 ∷ []) after in
    let high = big-octets_of n (x / 256) (omega arith) before (x % 256 ∷ after) in
    let low = get_or-append-add before (octets_of n (x / 256) ++ (x % 256 ∷ after)) n 0 ∙ get_or_at (octets_of n (x / 256)) (x % 256) after 0 n (length-octets_of n (x / 256)) in
    ap (λ (l : List ℕ). big (suc n) (before ++ l) (length before)) s ∙ rw (high, low) (omega arith)
