-- The two words of one entry: written, they are read as that entry, and no other entry changes.
use Prim.Native.Nat.{ℕ, ◌+◌, ◌*◌, ◌/◌, ◌%◌, ◌<◌}
use native.Mathlib.Omega.{arith}
use mathlib.Core.Path.{◌≡◌, refl, ◌∙◌}
use mathlib.Core.Bool.{Bool, cond}
use mathlib.Core.Logic.{◌≢◌}
use mathlib.Core.List.{List}
use lib.Dec.{eqb}
use lib.ListN.{set, length, length-set}
use lib.Seq.{get_or-set_same, get_or-set_other}
use Rattle.basics.proofs.BitLaws.{bit-lt, bit-back}
use Rattle.timers.specs.Memory.{t1_count, word_count, entry_of, entry_at}

-- the second word's parts
pub packs : (d t : ℕ) (a b c g : Bool) → t < 256
    → entry_of d (t + 256 * cond a 1 0 + 512 * cond b 1 0 + 1024 * cond c 1 0 + 2048 * cond g 1 0)
    ≡ record { begun = g; deadline = d; tries = t; acked = a; sets = record { one = b; two = c } }
unfolding entry_of
packs d t a b c g h =
    fields (cond a 1 0) (cond b 1 0) (cond c 1 0) (cond g 1 0) (bit-lt a) (bit-lt b) (bit-lt c) (bit-lt g)
    ∙ rw (bit-back _ a refl, bit-back _ b refl, bit-back _ c refl, bit-back _ g refl)
  where
    fields : (x y z v : ℕ) → x < 2 → y < 2 → z < 2 → v < 2
        → entry_of d (t + 256 * x + 512 * y + 1024 * z + 2048 * v)
        ≡ record { begun = eqb v 1; deadline = d; tries = t; acked = eqb x 1; sets = record { one = eqb y 1; two = eqb z 1 } }
    fields x y z v p q r w =
        let e₀ : (t + 256 * x + 512 * y + 1024 * z + 2048 * v) % 256 ≡ t = omega arith in
        let q₁ : (t + 256 * x + 512 * y + 1024 * z + 2048 * v) / 256 ≡ x + 2 * y + 4 * z + 8 * v = omega arith in
        let q₂ : (t + 256 * x + 512 * y + 1024 * z + 2048 * v) / 512 ≡ y + 2 * z + 4 * v = omega arith in
        let q₃ : (t + 256 * x + 512 * y + 1024 * z + 2048 * v) / 1024 ≡ z + 2 * v = omega arith in
        let q₄ : (t + 256 * x + 512 * y + 1024 * z + 2048 * v) / 2048 ≡ v = omega arith in
        let e₁ : (x + 2 * y + 4 * z + 8 * v) % 2 ≡ x = omega arith in
        let e₂ : (y + 2 * z + 4 * v) % 2 ≡ y = omega arith in
        let e₃ : (z + 2 * v) % 2 ≡ z = omega arith in
        let e₄ : v % 2 ≡ v = omega arith in
        rw (e₀, q₁, q₂, q₃, q₄, e₁, e₂, e₃, e₄)

pub entry_here : (ws : List ℕ) (i a b : ℕ) → length ws ≡ word_count → i < t1_count → entry_at (set (set ws (2 * i) a) (2 * i + 1) b) i ≡ entry_of a b
unfolding entry_at
entry_here ws i a b l h =
    rw (get_or-set_other (set ws (2 * i) a) (2 * i + 1) (2 * i) b 0 (λ (q : 2 * i ≡ 2 * i + 1). omega arith), get_or-set_same ws (2 * i) a 0 (omega arith), get_or-set_same (set ws (2 * i) a) (2 * i + 1) b 0 (rw length-set (omega arith)))

pub entry-else : (ws : List ℕ) (i j a b : ℕ) → j ≢ i → entry_at (set (set ws (2 * i) a) (2 * i + 1) b) j ≡ entry_at ws j
unfolding entry_at
entry-else ws i j a b h =
    rw (get_or-set_other (set ws (2 * i) a) (2 * i + 1) (2 * j) b 0 (λ (q : 2 * j ≡ 2 * i + 1). omega arith), get_or-set_other ws (2 * i) (2 * j) a 0 (λ (q : 2 * j ≡ 2 * i). h (omega arith)), get_or-set_other (set ws (2 * i) a) (2 * i + 1) (2 * j + 1) b 0 (λ (q : 2 * j + 1 ≡ 2 * i + 1). h (omega arith)), get_or-set_other ws (2 * i) (2 * j + 1) a 0 (λ (q : 2 * j + 1 ≡ 2 * i). omega arith))
