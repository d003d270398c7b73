-- The common part read off its words, and one law for each way that the words change: which words a change leaves is all it asks.
use Prim.Native.Nat.{ℕ, zero, suc, ◌+◌, ◌-◌, ◌*◌, ◌%◌, ◌<◌, ◌≤◌}
use native.Mathlib.Omega.{arith}
use mathlib.Core.Path.{◌≡◌, refl, ap, sym, ◌∙◌}
use mathlib.Core.Logic.{inl, inr, ◌⊎◌}
use mathlib.Core.List.{List}
use lib.ListN.{length, get_or, set, drop, length-set, length-drop}
use lib.Seq.{ext_get_or, get_or-take, get_or-drop, length-take-le, get_or-set_same, get_or-set_other}
use lib.Dec.{ltb}
use borrow.Author.Tests.{lt-ltb, le-ltb, ltb-true}
use Rattle.basics.proofs.BoolLaws.{by-test}
use Rattle.basics.specs.declared.levels.Levels.{Levels}
use Rattle.basics.specs.Levels.{union}
use Rattle.settings.specs.Settings.{enabled_levels}
use Rattle.settings.proofs.SettingsLaws.{enabled-step}
use Rattle.timers.specs.Memory.{word_count, timers_at}
use Rattle.settings.specs.declared.circuit.Circuit.{Circuit}
use Rattle.control.specs.Words.{control_words, seal_place, count_place, clock_place, system_place, lengths_place, head_place, serving_place, entries_place, circuits_place, sealed, count_in, count_of, circuit_at, circuits_from, head_of, serving_in, serving_of, entries_of, common_of}
use Rattle.control.specs.Common.{with_clock, with_timers, circuit_of, Chooses, no_circuit}
use Rattle.basics.specs.Mask.{circuits}
use Rattle.std.specs.Prelude.{Some, None}

-- ---- the circuits

pub length-circuits : (ws : List ℕ) (i n : ℕ) → length (circuits_from ws i n) ≡ n
unfolding circuits_from
length-circuits ws i zero = refl
length-circuits ws i (suc n) = ap suc (length-circuits ws (suc i) n)

pub circuits-at : (ws : List ℕ) (i n k : ℕ) (d : Circuit) → k < n → get_or (circuits_from ws i n) k d ≡ circuit_at ws (i + k)
unfolding circuits_from
circuits-at ws i zero k d lt = absurd (omega arith)
circuits-at ws i (suc n) zero d lt = let e : i ≡ i + 0 = omega arith in ap (circuit_at ws) e
circuits-at ws i (suc n) (suc k) d lt =
    let e : suc i + k ≡ i + suc k = omega arith in
    circuits-at ws (suc i) n k d (omega arith) ∙ ap (circuit_at ws) e

module _ (ws : List ℕ) where
  pub circuits-length : length (common_of ws).circuits ≡ count_of ws
  unfolding common_of
  circuits-length = length-circuits ws 0 (count_of ws)

  pub circuits-nth : (i : ℕ) (d : Circuit) → i < count_of ws → get_or (common_of ws).circuits i d ≡ circuit_at ws i
  unfolding common_of
  circuits-nth i d lt =
      let e : 0 + i ≡ i = omega arith in
      circuits-at ws 0 (count_of ws) i d lt ∙ ap (circuit_at ws) e

  pub chooses-zero : (n : ℕ) → n ≡ 0 → Chooses (common_of ws) n None
  unfolding circuit_of
  chooses-zero zero e = record { is = refl; range = tt }
  chooses-zero (suc i) e = absurd (omega arith)

  pub chooses-past : (n : ℕ) → 0 < n → count_of ws ≤ n - 1 → Chooses (common_of ws) n None
  unfolding circuit_of
  chooses-past zero p e = absurd (omega arith)
  chooses-past (suc i) p e =
      let q : length (common_of ws).circuits ≤ i = omega (arith, circuits-length) in
      record { is = rw (le-ltb i (length (common_of ws).circuits) q) refl; range = tt }

  pub chooses-known : (n : ℕ) → 0 < n → n - 1 < count_of ws → count_of ws ≤ circuits → Chooses (common_of ws) n (Some (circuit_at ws (n - 1)))
  unfolding circuit_of
  chooses-known zero p e h = absurd (omega arith)
  chooses-known (suc i) p e h =
      let q : i < length (common_of ws).circuits = omega (arith, circuits-length) in
      let z : suc i - 1 ≡ i = omega arith in
      let l : i < count_of ws = omega arith in
      record {
        is = rw (lt-ltb i (length (common_of ws).circuits) q) (ap Some (ap (circuit_at ws) z ∙ sym (circuits-nth i no_circuit l)));
        range = (omega arith, omega arith);
      }

  -- the circuit of a number stands in its own words
  pub known_at : (n : ℕ) (s : Circuit) → circuit_of (common_of ws) n ≡ Some s → s ≡ circuit_at ws (n - 1)
  unfolding circuit_of
  known_at zero s e = absurd (let z : ◌≡◌ {A = ℕ} 0 1 = cc in omega arith)
  known_at (suc i) s e =
      let at : suc i - 1 ≡ i = omega arith in
      let l = length (common_of ws).circuits in
      by-test (ltb i l)
      (λ q.
      let z : Some (get_or (common_of ws).circuits i no_circuit) ≡ Some s = rw q at e in
      let w : get_or (common_of ws).circuits i no_circuit ≡ s = cc in
      sym w ∙ circuits-nth i no_circuit (omega (arith, ltb-true i l q, circuits-length)) ∙ ap (circuit_at ws) (sym at))
      (λ q. let y : None ≡ Some s = rw q at e in absurd (let z : ◌≡◌ {A = ℕ} 0 1 = cc in omega arith))

  -- the levels found before circuit i, with its own
  pub levels-step : (found next : Levels) (i : ℕ) (s : Circuit) → i < count_of ws → s ≡ circuit_at ws i → next ≡ union found s.levels
      → union found (enabled_levels (drop i (common_of ws).circuits)) ≡ enabled_levels (common_of ws).circuits
      → union next (enabled_levels (drop (i + 1) (common_of ws).circuits)) ≡ enabled_levels (common_of ws).circuits
  levels-step found next i s lt e n h =
      let d = no_circuit in
      let cs = (common_of ws).circuits in
      ap (λ (l : Levels). union l (enabled_levels (drop (i + 1) cs)))
      (n ∙ ap (λ (x : Circuit). union found x.levels) (e ∙ sym (circuits-nth i d lt)))
      ∙ sym (enabled-step found cs i d (rw circuits-length lt)) ∙ h

-- ---- changes

-- the words outside a .. e - 1 stay
abbrev pub Keeps : ℕ → ℕ → List ℕ → List ℕ → Type 0
Keeps a e ws ws' = (q : ℕ) → (q < a) ⊎ (e ≤ q) → get_or ws' q 0 ≡ get_or ws q 0

module _ (a e : ℕ) (ws ws' : List ℕ) (k : Keeps a e ws ws') where
  circuit-kept : (i : ℕ) → e ≤ circuits_place → circuit_at ws' i ≡ circuit_at ws i
  unfolding circuit_at
  circuit-kept i h =
      cc (
        k (circuits_place + 3 * i) (inr (omega arith)),
        k (circuits_place + 3 * i + 1) (inr (omega arith)),
        k (circuits_place + 3 * i + 2) (inr (omega arith)),
      )

  pub circuits-kept : (i n : ℕ) → e ≤ circuits_place → circuits_from ws' i n ≡ circuits_from ws i n
  unfolding circuits_from
  circuits-kept i zero h = refl
  circuits-kept i (suc n) h = cc (circuit-kept i h, circuits-kept (suc i) n h)

  sealed-kept : (i : ℕ) → 0 < a → (i < a) ⊎ (e ≤ i) → sealed ws' i ≡ sealed ws i
  unfolding sealed
  sealed-kept i h g = cc (k seal_place (inl h), k i g)

  pub head-kept : (0 < a) → (e ≤ head_place) ⊎ (head_place + 4 ≤ a) → head_of ws' ≡ head_of ws
  unfolding head_of
  head-kept h g =
      cc (
        sealed-kept head_place h (aside 0 (omega arith) g),
        k (head_place + 1) (aside 1 (omega arith) g),
        k (head_place + 2) (aside 2 (omega arith) g),
        k (head_place + 3) (aside 3 (omega arith) g),
      )
    where
      aside : (i : ℕ) → i < 4 → (e ≤ head_place) ⊎ (head_place + 4 ≤ a) → (head_place + i < a) ⊎ (e ≤ head_place + i)
      aside i lt (inl h) = inr (omega arith)
      aside i lt (inr h) = inl (omega arith)

  pub serving-kept : (serving_place < a) ⊎ (e ≤ serving_place) → serving_of ws' ≡ serving_of ws
  serving-kept h = ap serving_in (k serving_place h)

  pub entries-kept : length ws ≡ control_words → length ws' ≡ control_words → e ≤ entries_place → entries_of ws' ≡ entries_of ws
  entries-kept l l' h =
      ext_get_or 0 (entries_of ws') (entries_of ws) (long ws' l' ∙ sym (long ws l))
      (λ i lt.
      let b : i < word_count = omega (arith, long ws' l') in
      get_or-take word_count (drop entries_place ws') i 0 b ∙ get_or-drop entries_place ws' i 0 ∙ k (entries_place + i) (inr (omega arith))
      ∙ sym (get_or-take word_count (drop entries_place ws) i 0 b ∙ get_or-drop entries_place ws i 0))
    where
      long : (xs : List ℕ) → length xs ≡ control_words → length (entries_of xs) ≡ word_count
      long xs l = length-take-le word_count (drop entries_place xs) (simp length-drop (omega arith))

module _ (ws ws' : List ℕ) where
  -- the clock's word
  clock-changed : Keeps clock_place (clock_place + 1) ws ws' → length ws ≡ control_words → length ws' ≡ control_words
      → common_of ws' ≡ with_clock (get_or ws' clock_place 0 % 4294967296) (common_of ws)
  unfolding common_of count_of
  clock-changed k l l' =
      cc (
        k system_place (inr (omega arith)),
        k lengths_place (inr (omega arith)),
        sealed-kept clock_place (clock_place + 1) ws ws' k count_place (omega arith) (inl (omega arith)),
        circuits-kept clock_place (clock_place + 1) ws ws' k 0 (count_in (sealed ws count_place)) (omega arith),
        head-kept clock_place (clock_place + 1) ws ws' k (omega arith) (inl (omega arith)),
        serving-kept clock_place (clock_place + 1) ws ws' k (inr (omega arith)),
        entries-kept clock_place (clock_place + 1) ws ws' k l l' (omega arith),
      )

  -- the timers' words
  pub timers-changed : Keeps head_place circuits_place ws ws'
      → common_of ws' ≡ with_timers (timers_at (serving_of ws') (head_of ws') (entries_of ws')) (common_of ws)
  unfolding common_of count_of
  timers-changed k =
      cc (
        k system_place (inl (omega arith)),
        k lengths_place (inl (omega arith)),
        k clock_place (inl (omega arith)),
        sealed-kept head_place circuits_place ws ws' k count_place (omega arith) (inl (omega arith)),
        circuits-kept head_place circuits_place ws ws' k 0 (count_in (sealed ws count_place)) (omega arith),
      )

pub clock-set : (ws : List ℕ) (clock : ℕ) → length ws ≡ control_words → clock < 4294967296
    → common_of (set ws clock_place clock) ≡ with_clock clock (common_of ws)
clock-set ws clock l lt =
    let e : clock % 4294967296 ≡ clock = omega arith in
    clock-changed ws (set ws clock_place clock) keeps l (rw length-set l)
    ∙ ap (λ (n : ℕ). with_clock (n % 4294967296) (common_of ws)) (get_or-set_same ws clock_place clock 0 (omega arith))
    ∙ ap (λ (n : ℕ). with_clock n (common_of ws)) e
  where
    keeps : Keeps clock_place (clock_place + 1) ws (set ws clock_place clock)
    keeps q (inl h) = get_or-set_other ws clock_place q clock 0 (λ (z : q ≡ clock_place). omega arith)
    keeps q (inr h) = get_or-set_other ws clock_place q clock 0 (λ (z : q ≡ clock_place). omega arith)

-- ---- what the code reads
