-- What is read of the three-way and the Reverse Metric TLV, by how often each occurs, and what a value that breaks no rule
-- has. The proofs of their readers cite these.
use Prim.Native.Nat.{ℕ, ◌<◌}
use mathlib.Core.List.{List, [], ◌∷◌}
use mathlib.Core.Bool.{false, cond, true≢false}
use mathlib.Core.Path.{◌≡◌, refl}
use native.Mathlib.Omega.{arith}
use lib.ListN.{length}
use Rattle.tlv.specs.Tlv.{Tlv, first_value, unless}
use Rattle.tlv.proofs.TlvLaws.{by_count, unless-bad, lone-read}
use Rattle.hello.specs.ThreeWay.{three_way_length, three_way_bad, three_way_of, three_way_read}
use Rattle.hello.specs.Reverse.{reverse_bad, reverse_of, reverse_read}
use Rattle.std.specs.Prelude.{None, Ok, Err}
use Rattle.tlv.specs.Tlv.{broken_rule}

pub three-way-read : (end : ℕ) (ts : List Tlv)
    → three_way_read end ts
    ≡ by_count (length ts)
    (Err broken_rule)
    (cond (three_way_bad (first_value ts)) (Err broken_rule) (Ok (three_way_of (first_value ts))))
    (Err broken_rule)
unfolding three_way_read unless
three-way-read end [] = refl
three-way-read end (t ∷ []) = lone-read _ _ three_way_bad (t ∷ [])
three-way-read end (t ∷ u ∷ ts) = lone-read _ _ three_way_bad (t ∷ u ∷ ts)

pub reverse-read : (ts : List Tlv)
    → reverse_read ts
    ≡ by_count (length ts)
    (Ok None)
    (cond (reverse_bad (first_value ts)) (Err broken_rule) (Ok (reverse_of (first_value ts))))
    (Ok None)
unfolding reverse_read unless
reverse-read [] = refl
reverse-read (t ∷ []) = unless-bad _ _ (reverse_bad t.value) t.at
reverse-read (t ∷ u ∷ ts) = refl

-- a three-way TLV that breaks no rule has a state
pub has-state : (v : List ℕ) → three_way_bad v ≡ false → 0 < length v
unfolding three_way_bad three_way_length
has-state [] e = absurd (true≢false e)
has-state (x ∷ v) e = omega arith
