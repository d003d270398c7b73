-- What the rules of the Restart TLV give: the lengths that its flags ask for, and the reading by how often it occurs.
use Prim.Native.Nat.{ℕ, ◌≤◌, ◌<◌}
use mathlib.Core.Path.{◌≡◌, refl}
use mathlib.Core.List.{List, [], ◌∷◌}
use mathlib.Core.Bool.{true, false, cond}
use mathlib.Core.Logic.{◌⊎◌, inl, inr}
use native.Mathlib.Omega.{arith}
use lib.ListN.{length}
use lib.Dec.{ltb, leb}
use borrow.Author.Tests.{ltb-false, leb-true}
use Rattle.basics.specs.Octets.{octet, has_bits}
use Rattle.tlv.specs.Tlv.{Tlv, first_value, is_found}
use Rattle.basics.proofs.BoolLaws.{neither, by-test, all-below}
use Rattle.tlv.proofs.TlvLaws.{by_count, lone-read, unless-is-bad, unless-is-good}
use Rattle.restart_tlv.specs.Flags.{PR, counted, without, needs_neighbor, needs_time}
use Rattle.restart_tlv.specs.Restart.{least_length, restart_bad, restart_fault, restart_in, restart_of, restart_read}
use Rattle.restart_tlv.specs.declared.flags.Flags.{Flags}
use Rattle.restart_tlv.specs.declared.reader.RestartTlv.{RestartTlv}
use Rattle.restart_tlv.specs.declared.reader.RestartTlv.TheVariants.{Absent, Ignored, Present}
use Rattle.std.specs.Prelude.{Option, Ok, Err}
use Rattle.tlv.specs.Tlv.{broken_rule}

-- a value that breaks no rule has its flags, and the length that they ask for
module _ (v : List ℕ) (e : restart_bad v ≡ false) where
  pub has_flags : 1 ≤ length v
  unfolding restart_bad
  has_flags = ltb-false (length v) 1 (neither (ltb (length v) 1) _ e).0

  pub least_le : least_length (octet v 0) ≤ length v
  unfolding restart_bad
  least_le =
      let e₁ = (neither (ltb (length v) 1) _ e).1 in
      ltb-false (length v) (least_length (octet v 0)) (neither (ltb 9 (length v)) _ e₁).1

-- flags that are dropped ask for no more: a test of every octet
pub least_counted : (f : ℕ) → f < 256 → least_length (counted f) ≤ least_length f
unfolding counted without least_length needs_neighbor has_bits
least_counted f l = leb-true _ _ (all-below 256 (λ k. leb (least_length (counted k)) (least_length k)) refl f l)

module _ (f : ℕ) where
  pub neighbor_length : needs_neighbor f ≡ true → 9 ≤ least_length f
  unfolding least_length
  neighbor_length h = rw h (omega arith)

  pub time_length : needs_time f ≡ true → 3 ≤ least_length f
  unfolding least_length needs_time
  time_length h =
      by-test (needs_neighbor f) (λ n. rw n (omega arith))
      (λ n. let p : has_bits f PR ≡ true = rw n at h in rw (n, p) (omega arith))

-- the reading, by how often the type occurs
pub restart-read : (ts : List Tlv)
    → restart_read ts ≡ by_count (length ts) (Ok Absent) (cond (restart_bad (first_value ts)) (Err broken_rule) (Ok (restart_of (first_value ts)))) (Err broken_rule)
unfolding restart_read
restart-read [] = lone-read _ _ restart_bad []
restart-read (t ∷ []) = lone-read _ _ restart_bad (t ∷ [])
restart-read (t ∷ u ∷ ts) = lone-read _ _ restart_bad (t ∷ u ∷ ts)

-- what a `let .. else` that takes a Present out knows in its else
pub not-present : (r : RestartTlv) → ((f : Flags) (time : ℕ) (n : Option ℕ) → r ≡ Present f time n → ⊥) → (r ≡ Absent) ⊎ (r ≡ Ignored)
not-present Absent h = inl refl
not-present Ignored h = inr refl
not-present (Present f time n) h = absurd (h f time n refl)

-- the reading taken apart
module _ (ts : List Tlv) where
  pub restart-is-bad : restart_read ts ≡ Err broken_rule → is_found (restart_fault ts) ≡ true
  unfolding restart_read
  restart-is-bad = unless-is-bad (restart_fault ts) (restart_in ts)

  pub restart-is-good : (r : RestartTlv) → restart_read ts ≡ Ok r → (is_found (restart_fault ts) ≡ false) × (r ≡ restart_in ts)
  unfolding restart_read
  restart-is-good r = unless-is-good (restart_fault ts) (restart_in ts) r
