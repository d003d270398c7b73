-- The laws of one circuit's two words and 1,500 octets: what is stored is read back, and a chunk refused or joined.
use Prim.Native.Nat.{ℕ, ◌+◌, ◌-◌, ◌%◌, ◌^◌, ◌<◌, ◌≤◌}
use native.Mathlib.Omega.{arith}
use mathlib.Core.Path.{◌≡◌, refl, sym, ap, ◌∙◌}
use mathlib.Core.Bool.{true, false}
use mathlib.Core.List.{List, ◌++◌}
use lib.ListN.{length, get_or, set, take, drop, length-set, length-append}
use lib.Seq.{get_or-set_same, get_or-set_other, take_at, length-take-le}
use lib.Dec.{eqb, ltb}
use borrow.Author.Tests.{eq-eqb, ne_eqb, lt-ltb, le-ltb}
use Rattle.basics.proofs.BoolLaws.{by-test}
use Rattle.basics.specs.Octets.{octet, big}
use Rattle.basics.proofs.OctetsLaws.{big_lt}
use Rattle.basics.specs.declared.refusal.Refusal.TheVariants.{NotBegun, TooLong}
use Rattle.chunks.specs.Chunks.{most_octets, join, after}
use Rattle.chunks.specs.Words.{slot_words, pending_of, Loads, Adds}
use Rattle.std.specs.Prelude.{Option, Some, None, Ok, Err}

pub is-idle : (us : List ℕ) → get_or us 0 0 ≡ 0 → None ≡ pending_of us
unfolding pending_of
is-idle us e = rw (eq-eqb (get_or us 0 0) 0 e) refl

pub is-past : (us : List ℕ) → (get_or us 0 0 ≡ 0 → ⊥) → most_octets + 1 < get_or us 0 0 → None ≡ pending_of us
unfolding pending_of
is-past us e h = rw (ne_eqb (get_or us 0 0) 0 e, lt-ltb (most_octets + 1) (get_or us 0 0) h) refl

pub is-begun : (us : List ℕ) → (get_or us 0 0 ≡ 0 → ⊥) → get_or us 0 0 ≤ most_octets + 1 → Some (get_or us 1 0 % 2 ^ 48, get_or us 0 0 - 1) ≡ pending_of us
unfolding pending_of
is-begun us e h = rw (ne_eqb (get_or us 0 0) 0 e, le-ltb (most_octets + 1) (get_or us 0 0) h) refl

-- ---- what is stored

module _ (us : List ℕ) (len : length us ≡ slot_words) where
  pub length-stored : (n : ℕ) → n ≤ most_octets → pending_of (set us 0 (n + 1)) ≡ Some (get_or us 1 0 % 2 ^ 48, n)
  length-stored n h =
      let a : get_or (set us 0 (n + 1)) 0 0 ≡ n + 1 = get_or-set_same us 0 (n + 1) 0 (omega arith) in
      let b : get_or (set us 0 (n + 1)) 1 0 ≡ get_or us 1 0 = get_or-set_other us 0 1 (n + 1) 0 (λ (z : 1 ≡ 0). omega arith) in
      let m : n + 1 - 1 ≡ n = omega arith in
      sym (is-begun (set us 0 (n + 1)) (λ (z : get_or (set us 0 (n + 1)) 0 0 ≡ 0). omega arith) (omega arith)) ∙ rw (a, b, m) refl

  -- a MAC of six octets
  pub begun : (s : List ℕ) → ((k : ℕ) → octet s k < 256) → (mac : ℕ) → mac ≡ big 6 s 0 → pending_of (set (set us 0 1) 1 mac) ≡ Some (big 6 s 0, 0)
  begun s h mac e =
      let a : get_or (set (set us 0 1) 1 mac) 0 0 ≡ 1 = get_or-set_other (set us 0 1) 1 0 mac 0 (λ (z : 0 ≡ 1). omega arith) ∙ get_or-set_same us 0 1 0 (omega arith) in
      let b : get_or (set (set us 0 1) 1 mac) 1 0 ≡ mac = get_or-set_same (set us 0 1) 1 mac 0 (rw length-set (omega arith)) in
      let m : mac % 2 ^ 48 ≡ big 6 s 0 = omega (arith, big_lt s 0 h 6) in
      sym (is-begun (set (set us 0 1) 1 mac) (λ (z : get_or (set (set us 0 1) 1 mac) 0 0 ≡ 0). omega arith) (omega arith)) ∙ rw (a, b, m) refl

  pub cleared : pending_of (set us 0 0) ≡ None
  cleared = sym (is-idle (set us 0 0) (get_or-set_same us 0 0 0 (omega arith)))

-- ---- what a load tells in an arm of a match

pub pending-is : {us : List ℕ} {r p : Option (ℕ × ℕ)} → Loads us r → r ≡ p → pending_of us ≡ p
pending-is l e = sym l.is ∙ e

pub range-is : {us : List ℕ} {r : Option (ℕ × ℕ)} {mac n : ℕ} → Loads us r → r ≡ Some (mac, n) → n ≤ most_octets
range-is l e = (rw e at l.range).0

pub mac-range : {us : List ℕ} {r : Option (ℕ × ℕ)} {mac n : ℕ} → Loads us r → r ≡ Some (mac, n) → mac < 2 ^ 48
mac-range l e = (rw e at l.range).1

mac-is : (us : List ℕ) (mac n : ℕ) → pending_of us ≡ Some (mac, n) → get_or us 1 0 % 2 ^ 48 ≡ mac
unfolding pending_of
mac-is us mac n e =
    by-test (eqb (get_or us 0 0) 0) (λ p. let w = rw p at e in absurd (let z : ◌≡◌ {A = ℕ} 0 1 = cc in omega arith))
    (λ p. by-test (ltb (most_octets + 1) (get_or us 0 0)) (λ q. let w = rw (p, q) at e in absurd (let z : ◌≡◌ {A = ℕ} 0 1 = cc in omega arith))
    (λ q. let w = rw (p, q) at e in
    let v : ◌≡◌ {A = ℕ × ℕ} (get_or us 1 0 % 2 ^ 48, get_or us 0 0 - 1) (mac, n) = cc in ap (λ (x : ℕ × ℕ). x.0) v))

-- ---- refusals 13 and 14, and the chunk joined

module _ (chunk us fs : List ℕ) where
  pub adds-not-begun : pending_of us ≡ None → Adds chunk us fs (Err NotBegun) us fs
  unfolding join after
  adds-not-begun e = record { answer = rw e refl; next = rw e refl; kept = λ x q. (refl, refl) }

  module _ (mac n : ℕ) (e : pending_of us ≡ Some (mac, n)) (fit : n ≤ length fs) where
    long : length (take n fs) ≡ n
    long = length-take-le n fs fit

    pub adds-too-long : most_octets < n + length chunk → Adds chunk us fs (Err TooLong) us fs
    unfolding join after
    adds-too-long h =
        let t : ltb most_octets (length (take n fs) + length chunk) ≡ true = lt-ltb most_octets (length (take n fs) + length chunk) (omega (arith, long)) in
        record { answer = rw (e, t) refl; next = rw (e, t) refl; kept = λ x q. (refl, refl) }

    pub adds : n + length chunk ≤ most_octets → length us ≡ slot_words → (fs' : List ℕ) → fs' ≡ take n fs ++ chunk ++ drop (n + length chunk) fs
        → Adds chunk us fs (Ok tt) (set us 0 (n + length chunk + 1)) fs'
    unfolding join after
    adds h len fs' copied =
        let t : ltb most_octets (length (take n fs) + length chunk) ≡ false = le-ltb most_octets (length (take n fs) + length chunk) (omega (arith, long)) in
        let w = length-stored us len (n + length chunk) h in
        let joins : take (n + length chunk) fs' ≡ take n fs ++ chunk
        = rw copied (take_at (take n fs ++ chunk) (drop (n + length chunk) fs) (n + length chunk) (length-append (take n fs) chunk ∙ ap (λ (k : ℕ). k + length chunk) long)) in
        record {
          answer = rw (e, t) refl;
          next = rw (w, e, t, joins, mac-is us mac n e) refl;
          kept = λ x q. absurd (let z : ◌≡◌ {A = ℕ} 0 1 = cc in omega arith);
        }
