-- The timers' head in its words: what is stored is read back, and the rest of the common part stays.
use Prim.Native.Nat.{ℕ, ◌+◌, ◌*◌, ◌/◌, ◌%◌, ◌<◌, ◌≤◌}
use native.Mathlib.Omega.{arith}
use mathlib.Core.Path.{◌≡◌, refl, ap, ◌∙◌}
use mathlib.Core.Bool.{cond}
use mathlib.Core.Logic.{inl, inr, ◌⊎◌}
use mathlib.Core.List.{List}
use lib.ListN.{length, get_or, set, length-set}
use lib.Seq.{get_or-set_same, get_or-set_other}
use borrow.Author.Tests.{eq-eqb}
use Rattle.basics.proofs.BitLaws.{bit-back}
use Rattle.settings.specs.declared.serving.Serving.{Serving}
use Rattle.timers.specs.Memory.{timers_of, timers_at}
use Rattle.timers.specs.declared.head.Head.{Head}
use Rattle.control.specs.Words.{control_words, seal_place, head_place, circuits_place, seal, sealed, mode_in, timer_in, t2_in, t3_in, head_in, head_of, serving_of, entries_of, timer_deadline, t3_deadline, common_of}
use Rattle.control.specs.Common.{with_timers}
use Rattle.control.proofs.CommonLaws.{Keeps, serving-kept, entries-kept, timers-changed}

pub mode-at : (ws : List ℕ) → mode_in (sealed ws head_place % 4) ≡ (common_of ws).timers.mode
unfolding common_of head_of head_in timers_of
mode-at ws = refl

pub head_at : (ws : List ℕ) (w : ℕ) → w ≡ sealed ws head_place
    → head_in w (get_or ws (head_place + 1) 0) (get_or ws (head_place + 2) 0) (get_or ws (head_place + 3) 0) ≡ head_of ws
unfolding head_of
head_at ws w e = rw e refl

-- the digits of the head's word: the mode, whether each T2 runs and was noticed, T3, the mask
fields : (m x n y p z k a b e : ℕ) → m < 4 → x < 2 → n < 2 → y < 2 → p < 2 → z < 4 → k < 65536
    → head_in (m + 4 * x + 8 * n + 16 * y + 32 * p + 64 * z + 256 * k) a b e
    ≡ record { mode = mode_in m; mask = k; t2s = record { one = t2_in x n a; two = t2_in y p b }; t3 = t3_in z e }
unfolding head_in
fields m x n y p z k a b e hm hx hn hy hp hz hk =
    let e₀ : (m + 4 * x + 8 * n + 16 * y + 32 * p + 64 * z + 256 * k) % 4 ≡ m = omega arith in
    let q₁ : (m + 4 * x + 8 * n + 16 * y + 32 * p + 64 * z + 256 * k) / 4 ≡ x + 2 * n + 4 * y + 8 * p + 16 * z + 64 * k = omega arith in
    let q₂ : (m + 4 * x + 8 * n + 16 * y + 32 * p + 64 * z + 256 * k) / 8 ≡ n + 2 * y + 4 * p + 8 * z + 32 * k = omega arith in
    let q₃ : (m + 4 * x + 8 * n + 16 * y + 32 * p + 64 * z + 256 * k) / 16 ≡ y + 2 * p + 4 * z + 16 * k = omega arith in
    let q₄ : (m + 4 * x + 8 * n + 16 * y + 32 * p + 64 * z + 256 * k) / 32 ≡ p + 2 * z + 8 * k = omega arith in
    let q₅ : (m + 4 * x + 8 * n + 16 * y + 32 * p + 64 * z + 256 * k) / 64 ≡ z + 4 * k = omega arith in
    let q₆ : (m + 4 * x + 8 * n + 16 * y + 32 * p + 64 * z + 256 * k) / 256 ≡ k = omega arith in
    let e₁ : (x + 2 * n + 4 * y + 8 * p + 16 * z + 64 * k) % 2 ≡ x = omega arith in
    let e₂ : (n + 2 * y + 4 * p + 8 * z + 32 * k) % 2 ≡ n = omega arith in
    let e₃ : (y + 2 * p + 4 * z + 16 * k) % 2 ≡ y = omega arith in
    let e₄ : (p + 2 * z + 8 * k) % 2 ≡ p = omega arith in
    let e₅ : (z + 4 * k) % 4 ≡ z = omega arith in
    let e₆ : k % 65536 ≡ k = omega arith in
    rw (e₀, q₁, q₂, q₃, q₄, q₅, q₆, e₁, e₂, e₃, e₄, e₅, e₆)

-- the word that a head is stored as
module _ (h : Head) (m x n y p z : ℕ) where
  pub head-back : (mode_in m ≡ h.mode) × (m < 4)
      → (timer_in x (timer_deadline h.t2s.one.timer) ≡ h.t2s.one.timer) × (x < 2) → (n ≡ cond h.t2s.one.noticed 1 0) × (n < 2)
      → (timer_in y (timer_deadline h.t2s.two.timer) ≡ h.t2s.two.timer) × (y < 2) → (p ≡ cond h.t2s.two.noticed 1 0) × (p < 2)
      → (t3_in z (t3_deadline h.t3) ≡ h.t3) × (z < 4) → h.mask < 65536
      → head_in (m + 4 * x + 8 * n + 16 * y + 32 * p + 64 * z + 256 * h.mask) (timer_deadline h.t2s.one.timer) (timer_deadline h.t2s.two.timer) (t3_deadline h.t3) ≡ h
  head-back hm hx hn hy hp hz hk =
      fields m x n y p z h.mask (timer_deadline h.t2s.one.timer) (timer_deadline h.t2s.two.timer) (t3_deadline h.t3) hm.1 hx.1 hn.1 hy.1 hp.1 hz.1 hk
      ∙ rw (hm.0, hx.0, bit-back _ h.t2s.one.noticed hn.0, hy.0, bit-back _ h.t2s.two.noticed hp.0, hz.0)

-- the four words of the head
abbrev pub set4 : List ℕ → ℕ → ℕ → ℕ → ℕ → List ℕ
set4 ws w a b e = set (set (set (set ws head_place w) (head_place + 1) a) (head_place + 2) b) (head_place + 3) e

module _ (ws : List ℕ) (w a b e : ℕ) (len : length ws ≡ control_words) where
  length-set4 : length (set4 ws w a b e) ≡ control_words
  length-set4 = simp length-set len

  set4-keeps : Keeps head_place (head_place + 4) ws (set4 ws w a b e)
  set4-keeps q h =
      get_or-set_other (set (set (set ws head_place w) (head_place + 1) a) (head_place + 2) b) (head_place + 3) q e 0 (λ (z : q ≡ head_place + 3). by 3 (omega arith) z h)
      ∙ get_or-set_other (set (set ws head_place w) (head_place + 1) a) (head_place + 2) q b 0 (λ (z : q ≡ head_place + 2). by 2 (omega arith) z h)
      ∙ get_or-set_other (set ws head_place w) (head_place + 1) q a 0 (λ (z : q ≡ head_place + 1). by 1 (omega arith) z h)
      ∙ get_or-set_other ws head_place q w 0 (λ (z : q ≡ head_place). by 0 (omega arith) z h)
    where
      by : (i : ℕ) → i < 4 → q ≡ head_place + i → (q < head_place) ⊎ (head_place + 4 ≤ q) → ⊥
      by i lt z (inl h) = omega arith
      by i lt z (inr h) = omega arith

  -- a store at p leaves q as it was
  far : (xs : List ℕ) (p q v : ℕ) → q < p → get_or (set xs p v) q 0 ≡ get_or xs q 0
  far xs p q v h = get_or-set_other xs p q v 0 (λ (z : q ≡ p). omega arith)

  set4-head : get_or ws seal_place 0 ≡ seal → head_of (set4 ws w a b e) ≡ head_in w a b e
  unfolding head_of sealed
  set4-head m =
      let x1 = set ws head_place w in
      let x2 = set x1 (head_place + 1) a in
      let x3 = set x2 (head_place + 2) b in
      cc (
        eq-eqb (get_or (set4 ws w a b e) seal_place 0) seal (set4-keeps seal_place (inl (omega arith)) ∙ m),
        far x3 (head_place + 3) head_place e (omega arith),
        far x2 (head_place + 2) head_place b (omega arith),
        far x1 (head_place + 1) head_place a (omega arith),
        get_or-set_same ws head_place w 0 (omega arith),
        far x3 (head_place + 3) (head_place + 1) e (omega arith),
        far x2 (head_place + 2) (head_place + 1) b (omega arith),
        get_or-set_same x1 (head_place + 1) a 0 (simp length-set (omega arith)),
        far x3 (head_place + 3) (head_place + 2) e (omega arith),
        get_or-set_same x2 (head_place + 2) b 0 (simp length-set (omega arith)),
        get_or-set_same x3 (head_place + 3) e 0 (simp length-set (omega arith)),
      )

  pub head-stored : (h : Head) → get_or ws seal_place 0 ≡ seal → head_in w a b e ≡ h
      → common_of (set4 ws w a b e) ≡ with_timers (timers_at (serving_of ws) h (entries_of ws)) (common_of ws)
  head-stored h m p =
      timers-changed ws (set4 ws w a b e) wider
      ∙ ap (λ (v : Serving). with_timers (timers_at v (head_of (set4 ws w a b e)) (entries_of (set4 ws w a b e))) (common_of ws))
      (serving-kept head_place (head_place + 4) ws (set4 ws w a b e) set4-keeps (inr (omega arith)))
      ∙ ap (λ (x : Head). with_timers (timers_at (serving_of ws) x (entries_of (set4 ws w a b e))) (common_of ws)) (set4-head m ∙ p)
      ∙ ap (λ (l : List ℕ). with_timers (timers_at (serving_of ws) h l) (common_of ws))
      (entries-kept head_place (head_place + 4) ws (set4 ws w a b e) set4-keeps len length-set4 (omega arith))
    where
      wider : Keeps head_place circuits_place ws (set4 ws w a b e)
      wider q (inl h) = set4-keeps q (inl h)
      wider q (inr h) = set4-keeps q (inr (omega arith))
