-- What is packed is read back.
use Prim.Native.Nat.{ℕ, ◌+◌, ◌*◌, ◌/◌, ◌%◌, ◌<◌}
use native.Mathlib.Omega.{arith}
use mathlib.Core.Path.{◌≡◌, ◌∙◌}
use mathlib.Core.Bool.{cond}
use lib.Dec.{eqb}
use Rattle.settings.specs.declared.lengths.Lengths.{Lengths}
use Rattle.settings.specs.declared.circuit.Circuit.{Circuit}
use Rattle.settings.specs.declared.serving.Serving.{Serving}
use Rattle.control.specs.Words.{kind_in, circuit_in, lengths_in, serving_in}
use Rattle.basics.proofs.BitLaws.{bit-back}

-- the digits of a circuit's word: the kind, the two levels, the priority, the holding time, the metric
fields : (k a b p h m mac id : ℕ) → k < 2 → a < 2 → b < 2 → p < 256 → h < 65536 → m < 4294967296 → id < 4294967296
    → circuit_in (k + 2 * a + 4 * b + 256 * p + 65536 * h + 4294967296 * m) mac id
    ≡ record { kind = kind_in k; levels = record { one = eqb a 1; two = eqb b 1 }; mac = mac; priority = p; hold = h; metric = m; id = id }
unfolding circuit_in
fields k a b p h m mac id hk ha hb hp hh hm hi =
    let e₀ : (k + 2 * a + 4 * b + 256 * p + 65536 * h + 4294967296 * m) % 2 ≡ k = omega arith in
    let q₁ : (k + 2 * a + 4 * b + 256 * p + 65536 * h + 4294967296 * m) / 2 ≡ a + 2 * b + 128 * p + 32768 * h + 2147483648 * m = omega arith in
    let q₂ : (k + 2 * a + 4 * b + 256 * p + 65536 * h + 4294967296 * m) / 4 ≡ b + 64 * p + 16384 * h + 1073741824 * m = omega arith in
    let q₃ : (k + 2 * a + 4 * b + 256 * p + 65536 * h + 4294967296 * m) / 256 ≡ p + 256 * h + 16777216 * m = omega arith in
    let q₄ : (k + 2 * a + 4 * b + 256 * p + 65536 * h + 4294967296 * m) / 65536 ≡ h + 65536 * m = omega arith in
    let q₅ : (k + 2 * a + 4 * b + 256 * p + 65536 * h + 4294967296 * m) / 4294967296 ≡ m = omega arith in
    let e₁ : (a + 2 * b + 128 * p + 32768 * h + 2147483648 * m) % 2 ≡ a = omega arith in
    let e₂ : (b + 64 * p + 16384 * h + 1073741824 * m) % 2 ≡ b = omega arith in
    let e₃ : (p + 256 * h + 16777216 * m) % 256 ≡ p = omega arith in
    let e₄ : (h + 65536 * m) % 65536 ≡ h = omega arith in
    let e₅ : m % 4294967296 ≡ m = omega arith in
    let e₆ : id % 4294967296 ≡ id = omega arith in
    rw (e₀, q₁, q₂, q₃, q₄, q₅, e₁, e₂, e₃, e₄, e₅, e₆)

pub circuit-back : (s : Circuit) (k a b : ℕ) → (kind_in k ≡ s.kind) × (k < 2) → (a ≡ cond s.levels.one 1 0) × (a < 2)
    → (b ≡ cond s.levels.two 1 0) × (b < 2) → s.priority < 256 → s.hold < 65536 → s.metric < 4294967296 → s.id < 4294967296
    → circuit_in (k + 2 * a + 4 * b + 256 * s.priority + 65536 * s.hold + 4294967296 * s.metric) s.mac s.id ≡ s
circuit-back s k a b hk ha hb hp hh hm hi =
    fields k a b s.priority s.hold s.metric s.mac s.id hk.1 ha.1 hb.1 hp hh hm hi
    ∙ rw (hk.0, bit-back _ s.levels.one ha.0, bit-back _ s.levels.two hb.0)

pub lengths-back : (s : Lengths) → s.t1 < 65536 → s.t2 < 65536 → s.tries < 256
    → lengths_in (s.t1 + 65536 * s.t2 + 4294967296 * s.tries) ≡ s
unfolding lengths_in
lengths-back s ha hb hn =
    let e₀ : (s.t1 + 65536 * s.t2 + 4294967296 * s.tries) % 65536 ≡ s.t1 = omega arith in
    let q₁ : (s.t1 + 65536 * s.t2 + 4294967296 * s.tries) / 65536 ≡ s.t2 + 65536 * s.tries = omega arith in
    let q₂ : (s.t1 + 65536 * s.t2 + 4294967296 * s.tries) / 4294967296 ≡ s.tries = omega arith in
    let e₁ : (s.t2 + 65536 * s.tries) % 65536 ≡ s.t2 = omega arith in
    let e₂ : s.tries % 256 ≡ s.tries = omega arith in
    rw (e₀, q₁, q₂, e₁, e₂)

pub serving-back : (v : Serving) → v.one < 65536 → v.two < 65536 → serving_in (v.one + 65536 * v.two) ≡ v
unfolding serving_in
serving-back v ha hb =
    let e₀ : (v.one + 65536 * v.two) % 65536 ≡ v.one = omega arith in
    let q₁ : (v.one + 65536 * v.two) / 65536 ≡ v.two = omega arith in
    let e₁ : v.two % 65536 ≡ v.two = omega arith in
    rw (e₀, q₁, e₁)
