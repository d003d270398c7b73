-- A place's words: what is stored is read back, and the other places stay. Every store's proof cites `stored`.
use Prim.Native.Nat.{ℕ, ◌+◌, ◌*◌, ◌/◌, ◌%◌, ◌<◌}
use native.Mathlib.Omega.{arith}
use mathlib.Core.Path.{◌≡◌, refl, ap, ◌∙◌}
use mathlib.Core.Bool.{false}
use mathlib.Core.Logic.{inl, inr, ◌⊎◌}
use mathlib.Core.List.{List}
use lib.ListN.{length, get_or, set, length-set}
use lib.Seq.{get_or-set_same, get_or-set_other}
use borrow.Author.Tests.{eq-eqb, ne_eqb}
use Rattle.basics.proofs.ListLaws.{length-tabulate, get_or-tabulate, tabulate-set}
use Rattle.adjacency.specs.Record.{expiry_of}
use Rattle.adjacency.specs.declared.record.State.{State}
use Rattle.adjacency.specs.declared.record.State.TheVariants.{Init, Up}
use Rattle.adjacency.specs.declared.record.Record.{Record}
use Rattle.slots.specs.Word.{state_word, mark_word, data_word, FitState}
use Rattle.slots.specs.Slots.{slot_of, slot_at, table_of, record_word, FitRecord, room_words, places}
use Rattle.adjacency.specs.Place.{is_held}
use Rattle.adjacency.specs.declared.place.Slot.{Slot}
use Rattle.adjacency.specs.declared.place.Slot.TheVariants.{Free, Held, Closed}
use Rattle.slots.proofs.WordLaws.{data-digits, data-back, mark-le, mark-back, mark-low}

-- what is packed is read back
pub reads-back : (system mac l : ℕ) (s : State) → l < 256 → FitState s
    → slot_of system mac (expiry_of s) (state_word s + 256 * l)
    ≡ Held (record { key = record { level = l; system = system; mac = mac }; state = s })
reads-back system mac l (Init d) hl f =
    let w : ℕ = 1 + data_word d + 256 * l in
    let h = data-digits 1 l d (omega arith) hl f in
    simp (
      ne_eqb (w % 4) 0 (λ (z : w % 4 ≡ 0). omega (arith, h.low)),
      ne_eqb (w % 4) 3 (λ (z : w % 4 ≡ 3). omega (arith, h.low)),
      eq-eqb (w % 4) 1 (omega (arith, h.low)),
      data-back 1 l w d h,
      h.level,
    )
reads-back system mac l (Up d m) hl f =
    let w : ℕ = 2 + mark_word m + data_word d + 256 * l in
    let b = mark-le m in
    let h = data-digits (2 + mark_word m) l d (omega arith) hl f in
    let t : w % 4 ≡ 2 = mark-low m w h.low in
    simp (
      ne_eqb (w % 4) 0 (λ (z : w % 4 ≡ 0). omega arith),
      ne_eqb (w % 4) 3 (λ (z : w % 4 ≡ 3). omega arith),
      ne_eqb (w % 4) 1 (λ (z : w % 4 ≡ 1). omega arith),
      data-back (2 + mark_word m) l w d h,
      mark-back m w h.low,
      h.level,
    )

pub length-table : (ws : List ℕ) → length (table_of ws) ≡ places
unfolding table_of
length-table ws = length-tabulate (slot_at ws) places

pub table_at : (ws : List ℕ) (i : ℕ) → i < places → get_or (table_of ws) i Free ≡ slot_at ws i
unfolding table_of
table_at ws i lt = get_or-tabulate (slot_at ws) places i Free lt

-- a table whose words changed only at place i, which now means s
pub stored : (ws ws' : List ℕ) (i : ℕ) (s : Slot) → i < places → slot_at ws' i ≡ s
    → ((q : ℕ) → (q / 4 ≡ i → ⊥) → get_or ws' q 0 ≡ get_or ws q 0) → table_of ws' ≡ set (table_of ws) i s
unfolding table_of
stored ws ws' i s lt e h =
    tabulate-set (slot_at ws') (slot_at ws) places i s lt e
    (λ j lj ne.
    cc (
      h (4 * j) (λ (z : 4 * j / 4 ≡ i). ne (omega arith)),
      h (4 * j + 1) (λ (z : (4 * j + 1) / 4 ≡ i). ne (omega arith)),
      h (4 * j + 2) (λ (z : (4 * j + 2) / 4 ≡ i). ne (omega arith)),
      h (4 * j + 3) (λ (z : (4 * j + 3) / 4 ≡ i). ne (omega arith)),
    ))

-- one word of place i changes
other : (ws : List ℕ) (i p q v : ℕ) → p / 4 ≡ i → (q / 4 ≡ i → ⊥) → get_or (set ws p v) q 0 ≡ get_or ws q 0
other ws i p q v e ne = get_or-set_other ws p q v 0 (λ (z : q ≡ p). ne (ap (λ (n : ℕ). n / 4) z ∙ e))

module _ (ws : List ℕ) (i : ℕ) (len : length ws ≡ room_words) (lt : i < places) where
  -- the expiry and the tag change, and the tag alone decides
  pub emptied : (e v : ℕ) (s : Slot) → ((system mac expiry : ℕ) → slot_of system mac expiry v ≡ s)
      → table_of (set (set ws (4 * i + 2) e) (4 * i + 3) v) ≡ set (table_of ws) i s
  emptied e v s means =
      stored ws (set (set ws (4 * i + 2) e) (4 * i + 3) v) i s lt
      (rw (get_or-set_same (set ws (4 * i + 2) e) (4 * i + 3) v 0 (simp length-set (omega arith))) (means _ _ _))
      (λ q ne. other (set ws (4 * i + 2) e) i (4 * i + 3) q v (omega arith) ne ∙ other ws i (4 * i + 2) q e (omega arith) ne)

abbrev set3 : List ℕ → ℕ → ℕ → ℕ → ℕ → List ℕ
set3 ws i a b c = set (set (set ws (4 * i) a) (4 * i + 1) b) (4 * i + 2) c

abbrev pub set4 : List ℕ → ℕ → ℕ → ℕ → ℕ → ℕ → List ℕ
set4 ws i a b c d = set (set3 ws i a b c) (4 * i + 3) d

-- a store at p leaves q as it was
far : (ws : List ℕ) (p q v : ℕ) → (q < p) ⊎ (p < q) → get_or (set ws p v) q 0 ≡ get_or ws q 0
far ws p q v (inl h) = get_or-set_other ws p q v 0 (λ (z : q ≡ p). omega arith)
far ws p q v (inr h) = get_or-set_other ws p q v 0 (λ (z : q ≡ p). omega arith)

module _ (ws : List ℕ) (i a b c d : ℕ) (len : length ws ≡ room_words) (lt : i < places) where
  set4-means : slot_at (set4 ws i a b c d) i ≡ slot_of a b c d
  set4-means =
      cc (
        get_or-set_same (set3 ws i a b c) (4 * i + 3) d 0 (simp length-set (omega arith)),
        far (set3 ws i a b c) (4 * i + 3) (4 * i + 2) d (inl (omega arith)),
        get_or-set_same (set (set ws (4 * i) a) (4 * i + 1) b) (4 * i + 2) c 0 (simp length-set (omega arith)),
        far (set3 ws i a b c) (4 * i + 3) (4 * i + 1) d (inl (omega arith)),
        far (set (set ws (4 * i) a) (4 * i + 1) b) (4 * i + 2) (4 * i + 1) c (inl (omega arith)),
        get_or-set_same (set ws (4 * i) a) (4 * i + 1) b 0 (simp length-set (omega arith)),
        far (set3 ws i a b c) (4 * i + 3) (4 * i) d (inl (omega arith)),
        far (set (set ws (4 * i) a) (4 * i + 1) b) (4 * i + 2) (4 * i) c (inl (omega arith)),
        far (set ws (4 * i) a) (4 * i + 1) (4 * i) b (inl (omega arith)),
        get_or-set_same ws (4 * i) a 0 (omega arith),
      )

  set4-other : (q : ℕ) → (q / 4 ≡ i → ⊥) → get_or (set4 ws i a b c d) q 0 ≡ get_or ws q 0
  set4-other q ne =
      cc (
        other (set3 ws i a b c) i (4 * i + 3) q d (omega arith) ne,
        other (set (set ws (4 * i) a) (4 * i + 1) b) i (4 * i + 2) q c (omega arith) ne,
        other (set ws (4 * i) a) i (4 * i + 1) q b (omega arith) ne,
        other ws i (4 * i) q a (omega arith) ne,
      )

-- a record is stored
pub held : (ws : List ℕ) (i : ℕ) (r : Record) → length ws ≡ room_words → i < places → FitRecord r
    → table_of (set4 ws i r.key.system r.key.mac (expiry_of r.state) (record_word r)) ≡ set (table_of ws) i (Held r)
held ws i r len lt f =
    stored ws (set4 ws i r.key.system r.key.mac (expiry_of r.state) (record_word r)) i (Held r) lt
    (set4-means ws i r.key.system r.key.mac (expiry_of r.state) (record_word r) len lt
    ∙ reads-back r.key.system r.key.mac r.key.level r.state f.0 f.1)
    (set4-other ws i r.key.system r.key.mac (expiry_of r.state) (record_word r) len lt)

-- what a `let .. else` that takes a record out knows in its else
pub not-held : (s : Slot) → ((r : Record) → s ≡ Held r → ⊥) → is_held s ≡ false
not-held Free h = refl
not-held (Held r) h = absurd (h r refl)
not-held Closed h = refl
