-- What stands at a position: the cases by which every loop over TLVs goes. No other proof unfolds `tlvs`.
use Prim.Native.Nat.{ℕ, zero, suc, ◌+◌, ◌-◌, ◌≤◌, ◌<◌}
use mathlib.Core.Path.{◌≡◌, refl, ap, sym, ◌∙◌}
use mathlib.Core.List.{List, [], ◌∷◌}
use mathlib.Core.Bool.{Bool, true, false, cond, true≢false}
use native.Mathlib.Omega.{arith}
use lib.ListN.{length, drop, length-drop}
use lib.Seq.{length-take-le}
use lib.Dec.{leb, ltb, eqb}
use borrow.Author.Tests.{le-leb, lt-leb, lt-ltb, le-ltb, ltb-true, leb-true, leb-false, eq-eqb, ne_eqb}
use Rattle.basics.specs.Octets.{octet}
use Rattle.basics.proofs.BoolLaws.{by-test}
use Rattle.tlv.specs.Tlv.{Tlvs, done, cut, one, tlvs_up, tlvs, next_at, value_at, cut_at, counts_of, walk_as, walk_of, of_type, Tlv, first_at, first_value, several, FoundAt, lone_fault, is_found, unless, broken_rule}
use Rattle.tlv.specs.declared.tlvs.Counts.{Counts}
use Rattle.std.specs.Prelude.{Option, Some, None, Ok, Err}

-- two choices are equal where they are so when the test passes
same_then : (b : Bool) (x y z : Tlvs) → (b ≡ true → x ≡ y) → cond b x z ≡ cond b y z
same_then true x y z h = h refl
same_then false x y z h = refl

-- as many as octets are enough
enough : (m n : ℕ) (s : List ℕ) (at : ℕ) → length s ≤ at + m → length s ≤ at + n → tlvs_up m s at ≡ tlvs_up n s at
unfolding tlvs_up
enough zero zero s at p q = refl
enough zero (suc n) s at p q = rw (le-ltb at (length s) (omega arith))
enough (suc m) zero s at p q = rw (le-ltb at (length s) (omega arith))
enough (suc m) (suc n) s at p q =
    same_then (ltb at (length s)) _ _ done
    (λ t. same_then (leb (next_at s at) (length s)) _ _ (cut at)
    (λ u. ap (one at (octet s at) (value_at s at)) (enough m n s (next_at s at) (omega arith) (omega arith))))

at-end : (s : List ℕ) (at : ℕ) → length s ≤ at → tlvs s at ≡ done
unfolding tlvs tlvs_up
at-end s at q = enough (length s - at) zero s at (omega arith) (omega arith)

pub cut-end : (s : List ℕ) (at : ℕ) → length s ≤ at → cut_at (tlvs s at) ≡ None
unfolding cut_at
cut-end s at q = ap cut_at (at-end s at q)

pub none : (s : List ℕ) (at k : ℕ) → length s ≤ at → of_type k (tlvs s at) ≡ []
unfolding of_type
none s at k q = ap (of_type k) (at-end s at q)

-- 1 where a TLV of type k counts for type j, else 0
abbrev pub one_if : ℕ → ℕ → ℕ
one_if k j = cond (eqb k j) 1 0

count-cond : (b : Bool) (t : Tlv) (ts : List Tlv) → length (cond b (t ∷ ts) ts) ≡ cond b 1 0 + length ts
count-cond true t ts = omega arith
count-cond false t ts = omega arith

module _ (s : List ℕ) (at : ℕ) (l : at < length s) where
  step : tlvs s at ≡ tlvs_up (suc (length s - (at + 1))) s at
  unfolding tlvs
  step = enough (length s - at) (suc (length s - (at + 1))) s at (omega arith) (omega arith)

  -- the TLV at `at` passes the end
  module _ (q : length s < next_at s at) where
    at_cut : tlvs s at ≡ cut at
    unfolding tlvs_up
    at_cut = step ∙ simp (lt-ltb at (length s) l, lt-leb (next_at s at) (length s) q)

    pub cut-here : cut_at (tlvs s at) ≡ Some at
    unfolding cut_at
    cut-here = ap cut_at at_cut

    pub none-cut : (k : ℕ) → of_type k (tlvs s at) ≡ []
    unfolding of_type
    none-cut k = ap (of_type k) at_cut

  -- it ends by the end
  module _ (h : next_at s at ≤ length s) where
    at_one : tlvs s at ≡ one at (octet s at) (value_at s at) (tlvs s (next_at s at))
    unfolding tlvs_up tlvs
    at_one =
        step
        ∙ simp (lt-ltb at (length s) l, le-leb (next_at s at) (length s) h)
        (ap (one at (octet s at) (value_at s at))
        (enough (length s - (at + 1)) (length s - next_at s at) s (next_at s at) (omega arith) (omega arith)))

    pub cut-one : cut_at (tlvs s at) ≡ cut_at (tlvs s (next_at s at))
    unfolding cut_at
    cut-one = ap cut_at at_one

    pub count-one : (k : ℕ) → length (of_type k (tlvs s at)) ≡ one_if (octet s at) k + length (of_type k (tlvs s (next_at s at)))
    unfolding of_type
    count-one k = ap (λ (t : Tlvs). length (of_type k t)) at_one ∙ count-cond (eqb (octet s at) k) _ _

    -- of type k it is the first, or it is stepped over
    pub here : (k : ℕ) → octet s at ≡ k → of_type k (tlvs s at) ≡ record { at = at; value = value_at s at } ∷ of_type k (tlvs s (next_at s at))
    unfolding of_type
    here k q = ap (of_type k) at_one ∙ simp (eq-eqb _ _ q)

    pub passed : (k : ℕ) → (octet s at ≡ k → ⊥) → of_type k (tlvs s at) ≡ of_type k (tlvs s (next_at s at))
    unfolding of_type
    passed k q = ap (of_type k) at_one ∙ simp (ne_eqb _ _ q)

-- what is told of a TLV's end
module _ (s : List ℕ) (at : ℕ) where
  pub next-none : None ≡ cond (leb (next_at s at) (length s)) (Some (next_at s at)) None → length s < next_at s at
  next-none e =
      by-test (leb (next_at s at) (length s)) (λ t. let z : None ≡ Some (next_at s at) = rw t at e in cc)
      (λ t. leb-false (next_at s at) (length s) t)

  pub next-some : (n : ℕ) → Some n ≡ cond (leb (next_at s at) (length s)) (Some (next_at s at)) None → (n ≡ next_at s at) × (next_at s at ≤ length s)
  next-some n e =
      by-test (leb (next_at s at) (length s)) (λ t. let z : Some n ≡ Some (next_at s at) = rw t at e in (cc, leb-true (next_at s at) (length s) t))
      (λ t. let z : Some n ≡ None = rw t at e in cc)

-- there are no more than octets
one_more : (b : Bool) (t : Tlv) (ts : List Tlv) (n : ℕ) → length ts ≤ n → length (cond b (t ∷ ts) ts) ≤ suc n
one_more true t ts n h = omega arith
one_more false t ts n h = omega arith

count-up : (n k : ℕ) (s : List ℕ) (at : ℕ) → length (of_type k (tlvs_up n s at)) ≤ n
unfolding tlvs_up of_type
count-up zero k s at = omega arith
count-up (suc n) k s at =
    let rest = count-up n k s (next_at s at) in
    by-test (ltb at (length s))
    (λ t. by-test (leb (next_at s at) (length s)) (λ u. rw (t, u) (one_more (eqb (octet s at) k) _ _ n rest)) (λ u. rw (t, u) (omega arith)))
    (λ t. rw t (omega arith))

-- one of type k, or of another
pub one-here : (k j : ℕ) → k ≡ j → one_if k j ≡ 1
one-here k j e = rw (eq-eqb k j e) refl

pub one-not : (k j : ℕ) → (k ≡ j → ⊥) → one_if k j ≡ 0
one-not k j e = rw (ne_eqb k j e) refl

pub count-le : (k : ℕ) (s : List ℕ) (at : ℕ) → length (of_type k (tlvs s at)) ≤ length s
unfolding tlvs
count-le k s at = omega (arith, count-up (length s - at) k s at)

pub value-length : (s : List ℕ) (at : ℕ) → next_at s at ≤ length s → length (value_at s at) ≡ octet s (at + 1)
value-length s at h = length-take-le (octet s (at + 1)) (drop (at + 2) s) (rw length-drop (omega arith))

-- a turn of a loop over all TLVs of a type: the one found, whose value is in hand, and those past that value
module _ {s : List ℕ} {from k p : ℕ} {v : List ℕ} (f : FoundAt s from k p) (e : v ≡ value_at s p) where
  pub value-ends : p + 2 + length v ≡ next_at s p
  value-ends = rw (e, value-length s p f.within)

  pub turn-list : of_type k (tlvs s from) ≡ record { at = p; value = v } ∷ of_type k (tlvs s (p + 2 + length v))
  turn-list = rw (f.same, f.here, value-ends, e)

-- what one search, and the next one after it, tell
several-by : (t : Tlv) (ts : List Tlv) → several (t ∷ ts) ≡ is_found (first_at ts)
unfolding is_found
several-by t [] = refl
several-by t (u ∷ ts) = refl

-- of a type that may come at most once: the first keeps its rule, and the second is the one that is named
lone-next : (rule : List ℕ → Bool) (t : Tlv) (ts : List Tlv) → rule t.value ≡ false → lone_fault rule (t ∷ ts) ≡ first_at ts
unfolding lone_fault
lone-next rule t [] e = rw e refl
lone-next rule t (u ∷ ts) e = rw e refl

module _ (s : List ℕ) (from k p : ℕ) (f : FoundAt s from k p) where
  pub found-list : of_type k (tlvs s from) ≡ record { at = p; value = value_at s p } ∷ of_type k (tlvs s (next_at s p))
  found-list = f.same ∙ f.here

  pub repeats : (r : Option ℕ) → r ≡ first_at (of_type k (tlvs s (next_at s p))) → several (of_type k (tlvs s from)) ≡ is_found r
  repeats r e = ap several found-list ∙ several-by (record { at = p; value = value_at s p }) (of_type k (tlvs s (next_at s p))) ∙ ap is_found (sym e)

  module _ (rule : List ℕ → Bool) where
    pub lone-first : rule (value_at s p) ≡ true → lone_fault rule (of_type k (tlvs s from)) ≡ Some p
    unfolding lone_fault
    lone-first e = rw (found-list, e)

    pub lone-second : rule (value_at s p) ≡ false → lone_fault rule (of_type k (tlvs s from)) ≡ first_at (of_type k (tlvs s (next_at s p)))
    unfolding lone_fault
    lone-second e = ap (lone_fault rule) found-list ∙ lone-next rule (record { at = p; value = value_at s p }) (of_type k (tlvs s (next_at s p))) e

pub lone-none : (rule : List ℕ → Bool) (ts : List Tlv) → ts ≡ [] → lone_fault rule ts ≡ None
unfolding lone_fault
lone-none rule ts e = rw e

-- ---- places

-- a place that was found is no further than n
pub data Within (n : ℕ) : Option ℕ → Type 0 where
  nowhere : Within n None
  place : {p : ℕ} → p ≤ n → Within n (Some p)

-- each of some TLVs stands before n
pub data Standing (n : ℕ) : List Tlv → Type 0 where
  no_more : Standing n []
  stands : {t : Tlv} {ts : List Tlv} → t.at < n → Standing n ts → Standing n (t ∷ ts)

stands-if : (n : ℕ) (b : Bool) (t : Tlv) (ts : List Tlv) → t.at < n → Standing n ts → Standing n (cond b (t ∷ ts) ts)
stands-if n true t ts l h = stands l h
stands-if n false t ts l h = h

standing-up : (n k : ℕ) (s : List ℕ) (at : ℕ) → Standing (length s) (of_type k (tlvs_up n s at))
unfolding tlvs_up of_type
standing-up zero k s at = no_more
standing-up (suc n) k s at =
    let rest = standing-up n k s (next_at s at) in
    by-test (ltb at (length s))
    (λ t. by-test (leb (next_at s at) (length s)) (λ u. rw (t, u) (stands-if (length s) (eqb (octet s at) k) _ _ (ltb-true _ _ t) rest)) (λ u. rw (t, u) no_more))
    (λ t. rw t no_more)

-- every TLV stands in its PDU
pub standing : (k : ℕ) (s : List ℕ) (at : ℕ) → Standing (length s) (of_type k (tlvs s at))
unfolding tlvs
standing k s at = standing-up (length s - at) k s at

cut_up : (n : ℕ) (s : List ℕ) (at : ℕ) → Within (length s) (cut_at (tlvs_up n s at))
unfolding tlvs_up cut_at
cut_up zero s at = nowhere
cut_up (suc n) s at =
    let rest = cut_up n s (next_at s at) in
    by-test (ltb at (length s))
    (λ t. let l : at < length s = ltb-true _ _ t in by-test (leb (next_at s at) (length s)) (λ u. rw (t, u) rest) (λ u. rw (t, u) (place {p = at} (omega arith))))
    (λ t. rw t nowhere)

-- and so does the one that passes its end
pub cut-within : (s : List ℕ) (at : ℕ) → Within (length s) (cut_at (tlvs s at))
unfolding tlvs
cut-within s at = cut_up (length s - at) s at

first-within : (n : ℕ) (ts : List Tlv) → Standing n ts → Within n (first_at ts)
first-within n [] no_more = nowhere
first-within n (t ∷ ts) (stands l h) = place {p = t.at} (omega arith)

pub lone-within : (n : ℕ) (rule : List ℕ → Bool) (ts : List Tlv) → Standing n ts → Within n (lone_fault rule ts)
unfolding lone_fault
lone-within n rule [] no_more = nowhere
lone-within n rule (t ∷ ts) (stands l h) =
    by-test (rule t.value) (λ e. rw e (place {p = t.at} (omega arith))) (λ e. rw e (first-within n ts h))

pub is_within : (n : ℕ) (f : Option ℕ) (q : ℕ) → Within n f → f ≡ Some q → q ≤ n
is_within n None q nowhere e = absurd (let z : ◌≡◌ {A = ℕ} 0 1 = cc in omega arith)
is_within n (Some p) q (place l) e = let z : p ≡ q = cc in rw (← z) l

-- what is read of a type goes by how many there are: none, one or more
abbrev pub by_count : {A : Type 0} → ℕ → A → A → A → A
by_count zero x y z = x
by_count (suc zero) x y z = y
by_count (suc (suc n)) x y z = z

pub by_count-more : {A : Type 0} (n : ℕ) (x y z : A) → (n ≡ 0 → ⊥) → (n ≡ 1 → ⊥) → z ≡ by_count n x y z
by_count-more zero x y z p q = absurd (p refl)
by_count-more (suc zero) x y z p q = absurd (q refl)
by_count-more (suc (suc n)) x y z p q = refl

module _ {A : Type 0} (good bad : A) where
  -- the rule of a TLV that came alone
  pub unless-bad : (b : Bool) (p : ℕ) → unless (cond b (Some p) None) good bad ≡ cond b bad good
  unfolding unless
  unless-bad true p = refl
  unless-bad false p = refl

  unless-either : (b : Bool) (p q : ℕ) → unless (cond b (Some p) (Some q)) good bad ≡ bad
  unfolding unless
  unless-either true p q = refl
  unless-either false p q = refl

  -- of a type that may come at most once
  pub lone-read : (rule : List ℕ → Bool) (ts : List Tlv)
      → unless (lone_fault rule ts) good bad ≡ by_count (length ts) good (cond (rule (first_value ts)) bad good) bad
  unfolding lone_fault unless
  lone-read rule [] = refl
  lone-read rule (t ∷ []) = unless-bad (rule t.value) t.at
  lone-read rule (t ∷ u ∷ ts) = unless-either (rule t.value) t.at u.at

-- where it is known whether a rule is broken
pub unless-found : {A : Type 0} (f : Option ℕ) (x y : A) → is_found f ≡ true → unless f x y ≡ y
unfolding unless is_found
unless-found None x y e = absurd (true≢false (sym e))
unless-found (Some p) x y e = refl

pub unless-none : {A : Type 0} (f : Option ℕ) (x y : A) → is_found f ≡ false → unless f x y ≡ x
unfolding unless is_found
unless-none None x y e = refl
unless-none (Some p) x y e = absurd (true≢false e)

-- a reading taken apart, whatever its type: it is an error where a rule is broken, and otherwise it holds what was read
module _ {A : Type 0} where
  pub unless-is-bad : (f : Option ℕ) (a : A) → unless f (Ok a) (Err broken_rule) ≡ Err broken_rule → is_found f ≡ true
  unfolding unless is_found
  unless-is-bad None a e = let z : ◌≡◌ {A = ℕ} 0 1 = cc in absurd (omega arith)
  unless-is-bad (Some p) a e = refl

  pub unless-is-good : (f : Option ℕ) (a b : A) → unless f (Ok a) (Err broken_rule) ≡ Ok b → (is_found f ≡ false) × (b ≡ a)
  unfolding unless is_found
  unless-is-good None a b e = (refl, cc)
  unless-is-good (Some p) a b e = let z : ◌≡◌ {A = ℕ} 0 1 = cc in absurd (omega arith)

-- what the walk answers
pub walk-cut : (t : Tlvs) (p : ℕ) → cut_at t ≡ Some p → Err p ≡ walk_of t
unfolding walk_of
walk-cut t p e = rw e

pub walk-whole : (t : Tlvs) (n : Counts) → cut_at t ≡ None → n ≡ counts_of t → Ok n ≡ walk_of t
unfolding walk_of
walk-whole t n e q = rw (e, q)

walk-as-cut : (f : Option ℕ) (n : Counts) (q : ℕ) → walk_as f n ≡ Err q → f ≡ Some q
walk-as-cut None n q e = let z : ◌≡◌ {A = ℕ} 0 1 = cc in absurd (omega arith)
walk-as-cut (Some p) n q e = cc

pub walk-is-cut : (t : Tlvs) (q : ℕ) → walk_of t ≡ Err q → cut_at t ≡ Some q
unfolding walk_of
walk-is-cut t q e = walk-as-cut (cut_at t) (counts_of t) q e

walk-as-whole : (f : Option ℕ) (m n : Counts) → walk_as f m ≡ Ok n → (is_found f ≡ false) × (n ≡ m)
unfolding is_found
walk-as-whole None m n e = (refl, cc)
walk-as-whole (Some p) m n e = let z : ◌≡◌ {A = ℕ} 0 1 = cc in absurd (omega arith)

pub walk-is-whole : (t : Tlvs) (n : Counts) → walk_of t ≡ Ok n → (is_found (cut_at t) ≡ false) × (n ≡ counts_of t)
unfolding walk_of
walk-is-whole t n e = walk-as-whole (cut_at t) (counts_of t) n e

-- where none and more are read alike
pub by_count-other : {A : Type 0} (n : ℕ) (x y : A) → (n ≡ 1 → ⊥) → x ≡ by_count n x y x
by_count-other zero x y q = refl
by_count-other (suc zero) x y q = absurd (q refl)
by_count-other (suc (suc n)) x y q = refl
