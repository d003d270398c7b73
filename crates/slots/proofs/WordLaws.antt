-- What is packed into the word of small fields is read back. Cited by SlotLaws.
use Prim.Native.Nat.{ℕ, ◌+◌, ◌*◌, ◌/◌, ◌%◌, ◌<◌, ◌≤◌}
use native.Mathlib.Omega.{arith}
use mathlib.Core.Path.{◌≡◌}
use mathlib.Core.Bool.{Bool}
use borrow.Author.Tests.{eq-eqb, ne_eqb}
use Rattle.basics.proofs.BitLaws.{bit_le, bit-back}
use Rattle.adjacency.specs.declared.record.Mark.{Mark}
use Rattle.adjacency.specs.declared.record.Mark.TheVariants.{Clear, Restart, Planned}
use Rattle.adjacency.specs.declared.record.Data.{Data}
use Rattle.basics.specs.Bits.{bit_of}
use Rattle.slots.specs.Word.{reverse_at, data_at, mark_at, reverse_word, data_word, mark_word, FitReverse, FitData}
use Rattle.std.specs.Prelude.{Option, Some, None}
use Rattle.hello.specs.declared.reverse.ReverseMetric.{ReverseMetric}

-- the digits of a word: x the tag and the mark, then the bits, the level, the priority and the reverse metric
pub record Digits (x s t l p : ℕ) (v : Option ReverseMetric) (w : ℕ) : Type 0 where
  pub low : w % 16 ≡ x
  pub suppressed : w / 16 % 2 ≡ s
  pub tlv : w / 32 % 2 ≡ t
  pub level : w / 256 % 256 ≡ l
  pub priority : w / 65536 % 256 ≡ p
  pub reverse : reverse_at w ≡ v

present : (w o : ℕ) (a b : Bool) → w / 64 % 2 ≡ 1 → w / 4294967296 % 4294967296 ≡ o → w / 16777216 % 2 ≡ bit_of a
    → w / 33554432 % 2 ≡ bit_of b → reverse_at w ≡ Some (record { offset = o; whole = a; unreachable = b })
present w o a b h n x y = simp (eq-eqb _ _ h, n, bit-back (w / 16777216 % 2) a x, bit-back (w / 33554432 % 2) b y)

absent : (w : ℕ) → w / 64 % 2 ≡ 0 → reverse_at w ≡ None
absent w h = simp (ne_eqb (w / 64 % 2) 1 (λ (e : w / 64 % 2 ≡ 1). omega arith))

-- the reverse metric's digits, a and b, stand apart from the others
apart : (x s t l p a b w : ℕ) (v : Option ReverseMetric) → x < 16 → s ≤ 1 → t ≤ 1 → l < 256 → p < 256 → a ≤ 1
    → w ≡ x + (64 * a + 16777216 * b + 32 * t + 65536 * p + 16 * s) + 256 * l → reverse_at w ≡ v → Digits x s t l p v w
apart x s t l p a b w v hx hs ht hl hp ha e h =
    record {
      low = omega arith;
      suppressed = omega arith;
      tlv = omega arith;
      level = omega arith;
      priority = omega arith;
      reverse = h;
    }

digits : (x s t l p : ℕ) (v : Option ReverseMetric) → x < 16 → s ≤ 1 → t ≤ 1 → l < 256 → p < 256 → FitReverse v
    → Digits x s t l p v (x + (reverse_word v + 32 * t + 65536 * p + 16 * s) + 256 * l)
digits x s t l p None hx hs ht hl hp f =
    apart x s t l p 0 0 _ None hx hs ht hl hp (omega arith) (omega arith)
    (absent (x + (0 + 32 * t + 65536 * p + 16 * s) + 256 * l) (omega arith))
digits x s t l p (Some r) hx hs ht hl hp f =
    let a = r.whole in
    let b = r.unreachable in
    let o = r.offset in
    let ha : bit_of a ≤ 1 = bit_le a in
    let hb : bit_of b ≤ 1 = bit_le b in
    apart x s t l p 1 (bit_of a + 2 * bit_of b + 256 * o) _ (Some r) hx hs ht hl hp (omega arith) (omega arith)
    (present (x + (64 + 16777216 * bit_of a + 33554432 * bit_of b + 4294967296 * o + 32 * t + 65536 * p + 16 * s) + 256 * l) o a b
    (omega arith) (omega arith) (omega arith) (omega arith))

-- the digits of a record's word
pub data-digits : (x l : ℕ) (d : Data) → x < 16 → l < 256 → FitData d
    → Digits x (bit_of d.suppressed) (bit_of d.last.tlv) l d.last.priority d.last.reverse (x + data_word d + 256 * l)
data-digits x l d hx hl f =
    digits x (bit_of d.suppressed) (bit_of d.last.tlv) l d.last.priority d.last.reverse hx (bit_le d.suppressed)
    (bit_le d.last.tlv) hl f.0 f.1

pub data-back : (x l w : ℕ) (d : Data)
    → Digits x (bit_of d.suppressed) (bit_of d.last.tlv) l d.last.priority d.last.reverse w → data_at d.expiry w ≡ d
data-back x l w d h = simp (bit-back (w / 16 % 2) d.suppressed h.suppressed, bit-back (w / 32 % 2) d.last.tlv h.tlv, h.priority, h.reverse)

pub mark-le : (m : Mark) → mark_word m ≤ 8
mark-le Clear = omega arith
mark-le Restart = omega arith
mark-le Planned = omega arith

pub mark-back : (m : Mark) (w : ℕ) → w % 16 ≡ 2 + mark_word m → mark_at w ≡ m
mark-back Clear w h = simp (eq-eqb (w / 4 % 4) 0 (omega arith))
mark-back Restart w h = simp (ne_eqb (w / 4 % 4) 0 (λ (e : w / 4 % 4 ≡ 0). omega arith), eq-eqb (w / 4 % 4) 1 (omega arith))
mark-back Planned w h =
    simp (ne_eqb (w / 4 % 4) 0 (λ (e : w / 4 % 4 ≡ 0). omega arith), ne_eqb (w / 4 % 4) 1 (λ (e : w / 4 % 4 ≡ 1). omega arith))

pub mark-low : (m : Mark) (w : ℕ) → w % 16 ≡ 2 + mark_word m → w % 4 ≡ 2
mark-low Clear w h = omega arith
mark-low Restart w h = omega arith
mark-low Planned w h = omega arith
