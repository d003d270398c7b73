-- What the words of a place say of the record they mean: each question of probe.rt, told by the words that it reads.
use Prim.Native.Nat.{ℕ, ◌+◌, ◌*◌, ◌/◌, ◌%◌, ◌<◌}
use native.Mathlib.Omega.{arith}
use mathlib.Core.Path.{◌≡◌, refl, sym, ap, ◌∙◌}
use mathlib.Core.Bool.{Bool, true, false, not, cond, ◌&&◌}
use mathlib.Core.List.{List}
use lib.ListN.{get_or}
use lib.Dec.{eqb, leb}
use borrow.Author.Tests.{eq-eqb, ne_eqb, eqb-true, eqb-false, le-leb, lt-leb}
use Rattle.basics.proofs.BoolLaws.{by-test, and-false, and-true}
use Rattle.adjacency.specs.Record.{expiry_of}
use Rattle.adjacency.specs.Duty.{outranks}
use Rattle.adjacency.specs.declared.duty.Rank.{Rank}
use Rattle.adjacency.specs.declared.record.Data.{Data}
use Rattle.adjacency.specs.declared.record.Mark.{Mark}
use Rattle.adjacency.specs.declared.record.State.TheVariants.{Init, Up}
use Rattle.adjacency.specs.declared.record.Key.{Key}
use Rattle.adjacency.specs.declared.record.Record.{Record}
use Rattle.slots.specs.Word.{state_at, data_at, mark_at}
use Rattle.slots.specs.Slots.{table_of, held_word, due_at, places}
use Rattle.adjacency.specs.Place.{is_free, meets, expired_by, marks_planned, planned_state}
use Rattle.adjacency.specs.Keys.{same_key}
use Rattle.adjacency.specs.declared.place.Slot.{Slot}
use Rattle.adjacency.specs.declared.place.Slot.TheVariants.{Free, Held, Closed}
use Rattle.slots.proofs.SlotLaws.{table_at}

-- a question about a record, false of a place that holds none
told-by : (a b : Bool) (r : Record) (f : Slot → Bool) → f Free ≡ false → f Closed ≡ false
    → f (cond a Free (cond b Closed (Held r))) ≡ (not a && not b) && f (Held r)
told-by true b r f x y = x
told-by false true r f x y = y
told-by false false r f x y = refl

free-by : (a b : Bool) (r : Record) → a ≡ is_free (cond a Free (cond b Closed (Held r)))
free-by true b r = refl
free-by false true r = refl
free-by false false r = refl

-- the tag of an UP record
pub tag_up : (w : ℕ) → w % 4 ≡ 2 → held_word w ≡ true
tag_up w h = simp (ne_eqb (w % 4) 0 (λ (z : w % 4 ≡ 0). omega arith), ne_eqb (w % 4) 3 (λ (z : w % 4 ≡ 3). omega arith))

tag-none : (w : ℕ) → (w % 4 ≡ 2 → ⊥) → (w % 4 ≡ 1 → ⊥) → held_word w ≡ false
tag-none w two one =
    by-test (eqb (w % 4) 0) (λ q. rw q refl)
    (λ q. let zero = eqb-false (w % 4) 0 q in rw (q, eq-eqb (w % 4) 3 (omega (arith, zero, one, two))) refl)

-- keys

module _ (a b : Key) where
  pub other-system : (b.system ≡ a.system → ⊥) → same_key a b ≡ false
  unfolding same_key
  other-system ne = rw (ne_eqb a.system b.system (λ (z : a.system ≡ b.system). ne (sym z))) refl

  pub other-mac : (b.mac ≡ a.mac → ⊥) → same_key a b ≡ false
  unfolding same_key
  other-mac ne = rw (ne_eqb a.mac b.mac (λ (z : a.mac ≡ b.mac). ne (sym z))) (and-false (eqb a.system b.system))

  pub other-level : (b.level ≡ a.level → ⊥) → same_key a b ≡ false
  unfolding same_key
  other-level ne =
      rw (ne_eqb a.level b.level (λ (z : a.level ≡ b.level). ne (sym z)), and-false (eqb a.mac b.mac))
      (and-false (eqb a.system b.system))

  pub same-key : b.system ≡ a.system → b.mac ≡ a.mac → b.level ≡ a.level → same_key a b ≡ true
  unfolding same_key
  same-key s m l = rw (eq-eqb a.system b.system (sym s), eq-eqb a.mac b.mac (sym m), eq-eqb a.level b.level (sym l)) refl

-- states

expiry-by : (b : Bool) (d : Data) (m : Mark) → expiry_of (cond b (Init d) (Up d m)) ≡ d.expiry
expiry-by true d m = refl
expiry-by false d m = refl

expired-state : (clock e w : ℕ) → expired_by clock (state_at e w) ≡ leb e clock
expired-state clock e w = ap (λ (x : ℕ). leb x clock) (expiry-by (eqb (w % 4) 1) (data_at e w) (mark_at w))

planned-mark : (w : ℕ) → leb 2 (w / 4 % 4) ≡ marks_planned (mark_at w)
planned-mark w =
    by-test (eqb (w / 4 % 4) 0) (λ q. let z = eqb-true (w / 4 % 4) 0 q in rw (q, lt-leb 2 (w / 4 % 4) (omega (arith, z))) refl)
    (λ q.
    let z = eqb-false (w / 4 % 4) 0 q in
    by-test (eqb (w / 4 % 4) 1) (λ r. let y = eqb-true (w / 4 % 4) 1 r in rw (q, r, lt-leb 2 (w / 4 % 4) (omega (arith, y))) refl)
    (λ r. let y = eqb-false (w / 4 % 4) 1 r in rw (q, r, le-leb 2 (w / 4 % 4) (omega (arith, z, y))) refl))

pub planned-up : (e w : ℕ) → w % 4 ≡ 2 → leb 2 (w / 4 % 4) ≡ planned_state (state_at e w)
planned-up e w h = rw (ne_eqb (w % 4) 1 (λ (z : w % 4 ≡ 1). omega arith)) (planned-mark w)

-- the record that the words of place i mean where they mean one
abbrev pub record_at : List ℕ → ℕ → Record
record_at ws i =
    record {
      key = record { level = get_or ws (4 * i + 3) 0 / 256 % 256; system = get_or ws (4 * i) 0; mac = get_or ws (4 * i + 1) 0 };
      state = state_at (get_or ws (4 * i + 2) 0) (get_or ws (4 * i + 3) 0);
    }

module _ (ws : List ℕ) (i : ℕ) (lt : i < places) where
  pub free-told : eqb (get_or ws (4 * i + 3) 0 % 4) 0 ≡ is_free (get_or (table_of ws) i Free)
  free-told =
      free-by (eqb (get_or ws (4 * i + 3) 0 % 4) 0) (eqb (get_or ws (4 * i + 3) 0 % 4) 3) (record_at ws i)
      ∙ sym (ap is_free (table_at ws i lt))

  module _ (f : Slot → Bool) (x : f Free ≡ false) (y : f Closed ≡ false) where
    pub told : f (get_or (table_of ws) i Free) ≡ held_word (get_or ws (4 * i + 3) 0) && f (Held (record_at ws i))
    told =
        ap f (table_at ws i lt)
        ∙ told-by (eqb (get_or ws (4 * i + 3) 0 % 4) 0) (eqb (get_or ws (4 * i + 3) 0 % 4) 3) (record_at ws i) f x y

    -- no record stands there
    pub told_none : held_word (get_or ws (4 * i + 3) 0) ≡ false → false ≡ f (get_or (table_of ws) i Free)
    told_none h = sym (told ∙ ap (λ (b : Bool). b && f (Held (record_at ws i))) h)

    -- a record stands there
    pub told-held : held_word (get_or ws (4 * i + 3) 0) ≡ true → f (Held (record_at ws i)) ≡ f (get_or (table_of ws) i Free)
    told-held h = sym (told ∙ ap (λ (b : Bool). b && f (Held (record_at ws i))) h)

    -- of the record that would stand there it is false
    pub told-false : f (Held (record_at ws i)) ≡ false → false ≡ f (get_or (table_of ws) i Free)
    told-false h =
        sym (told ∙ ap (λ (b : Bool). held_word (get_or ws (4 * i + 3) 0) && b) h ∙ and-false (held_word (get_or ws (4 * i + 3) 0)))

    -- .. true
    pub told-true : f (Held (record_at ws i)) ≡ true → held_word (get_or ws (4 * i + 3) 0) ≡ f (get_or (table_of ws) i Free)
    told-true h =
        sym (told ∙ ap (λ (b : Bool). held_word (get_or ws (4 * i + 3) 0) && b) h ∙ and-true (held_word (get_or ws (4 * i + 3) 0)))

    -- what is false of INIT records is false where the tag is not UP
    pub told-not-up : ((d : Data) → f (Held (record { key = (record_at ws i).key; state = Init d })) ≡ false)
        → (get_or ws (4 * i + 3) 0 % 4 ≡ 2 → ⊥) → false ≡ f (get_or (table_of ws) i Free)
    told-not-up init ne =
        by-test (eqb (get_or ws (4 * i + 3) 0 % 4) 1)
        (λ q. told-false (rw q (init (data_at (get_or ws (4 * i + 2) 0) (get_or ws (4 * i + 3) 0)))))
        (λ q. told_none (tag-none (get_or ws (4 * i + 3) 0) ne (eqb-false (get_or ws (4 * i + 3) 0 % 4) 1 q)))

-- whether a record's expiry is reached is told by its expiry word
module _ (clock : ℕ) (ws : List ℕ) (i : ℕ) (lt : i < places) where
  pub due : due_at clock ws i ≡ true → held_word (get_or ws (4 * i + 3) 0) ≡ meets (expired_by clock) (get_or (table_of ws) i Free)
  due e =
      told-true ws i lt (meets (expired_by clock)) refl refl (expired-state clock (get_or ws (4 * i + 2) 0) (get_or ws (4 * i + 3) 0) ∙ e)

  pub not-due : due_at clock ws i ≡ false → false ≡ meets (expired_by clock) (get_or (table_of ws) i Free)
  not-due e =
      told-false ws i lt (meets (expired_by clock)) refl refl (expired-state clock (get_or ws (4 * i + 2) 0) (get_or ws (4 * i + 3) 0) ∙ e)

-- CSNP duty

pub outranks-init : (rank : Rank) (k : Key) (d : Data) → outranks rank (record { key = k; state = Init d }) ≡ false
unfolding outranks
outranks-init rank k d = and-false (eqb k.level rank.level)

pub outranks-level : (rank : Rank) (r : Record) → (r.key.level ≡ rank.level → ⊥) → outranks rank r ≡ false
unfolding outranks
outranks-level rank r ne = rw (ne_eqb r.key.level rank.level ne) refl
