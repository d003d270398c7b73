-- The laws of a room changed in place, one place a turn: what is done, and the definition on what is left.
use Prim.Native.Nat.{ℕ, suc, ◌+◌, ◌<◌, ◌≤◌}
use native.Mathlib.Omega.{arith}
use native.Mathlib.Numerals.{add-one}
use mathlib.Core.Path.{◌≡◌, refl, sym, ◌∙◌}
use mathlib.Core.Bool.{Bool, true, false, true≢false, ◌||◌, or-false, or-true}
use mathlib.Core.List.{List, [], ◌∷◌, ◌++◌, append-nil}
use lib.ListN.{length, get_or, set, take, drop, drop_of_length-le}
use lib.Seq.{drop-cons, take-suc, take-suc-set, drop-set-lt, append_snoc, take_all}
use Rattle.basics.proofs.BoolLaws.{neither}
use Rattle.basics.specs.declared.kind.CircuitKind.{CircuitKind}
use Rattle.adjacency.specs.declared.record.State.{State}
use Rattle.slots.specs.Slots.{table_of, due_at, places}
use Rattle.adjacency.specs.Place.{meets, expired_by}
use Rattle.adjacency.specs.declared.place.Slot.{Slot}
use Rattle.adjacency.specs.declared.place.Slot.TheVariants.{Free}
use Rattle.basics.proofs.ListLaws.{length-tabulate, get_or-tabulate}
use Rattle.slots.proofs.SlotLaws.{length-table}
use Rattle.slots.proofs.ProbeLaws.{not-due}
use Rattle.room.proofs.SearchLaws.{AnyOf, none_found}
use Rattle.room.specs.Table.{any_expired, swept_place, sweep, empty_place, empty_room}
use Rattle.basics.specs.Lists.{some}
use Rattle.room.specs.Sweep.{Sweeps}

-- where no place is due, no record has expired
pub none_due : (clock : ℕ) (ws : List ℕ) (r : Bool) → AnyOf (λ i. due_at clock ws i ≡ true) (λ i. due_at clock ws i ≡ false) r
    → r ≡ false → any_expired clock (table_of ws) ≡ false
none_due clock ws true h e = absurd (true≢false e)
none_due clock ws false h e =
    none_found (meets (expired_by clock)) (table_of ws) (length-table ws) (λ i. due_at clock ws i ≡ false) (λ i l n. sym (not-due clock ws i l n)) h

-- a sweep

-- the places before i are swept, and gone says whether a record went: what is done and the sweep of what is left are the sweep of the whole
pub record Swept (p : State → Bool) (t : List Slot) (i : ℕ) (gone : Bool) (t' : List Slot) : Type 0 where
  pub any : gone || some (meets p) (drop i t') ≡ some (meets p) t
  pub left : take i t' ++ sweep p (drop i t') ≡ sweep p t

-- whether a record went before place i, or at it, or goes after it
pub any_step : (p : State → Bool) (t : List Slot) (i : ℕ) → i < length t → (a : Bool)
    → (a || meets p (get_or t i Free)) || some (meets p) (drop (i + 1) (set t i (swept_place p (get_or t i Free)))) ≡ a || some (meets p) (drop i t)
unfolding some
any_step p t i lt true = refl
any_step p t i lt false =
    rw (add-one i, drop-set-lt (suc i) t i (swept_place p (get_or t i Free)) (omega arith), drop-cons t i Free lt) refl

module _ (p : State → Bool) (t u : List Slot) (i : ℕ) (gone : Bool) (h : Swept p t i gone u) where
  pub swept-gone : i < length u → meets p (get_or u i Free) ≡ true → Swept p t (i + 1) true (set u i Free)
  unfolding sweep some
  swept-gone lt e =
      let c : drop i u ≡ get_or u i Free ∷ drop (suc i) u = drop-cons u i Free lt in
      let w : swept_place p (get_or u i Free) ≡ Free = rw e refl in
      record {
        any = sym (or-true gone) ∙ rw (c, e) at h.any;
        left =
            rw (add-one i, take-suc-set u i Free lt, drop-set-lt (suc i) u i Free (omega arith))
            (append_snoc (take i u) Free (sweep p (drop (suc i) u)) ∙ rw (c, w) at h.left);
      }

  pub swept-stays : i < length u → meets p (get_or u i Free) ≡ false → Swept p t (i + 1) gone u
  unfolding sweep some
  swept-stays lt e =
      let c : drop i u ≡ get_or u i Free ∷ drop (suc i) u = drop-cons u i Free lt in
      let w : swept_place p (get_or u i Free) ≡ get_or u i Free = rw e refl in
      record {
        any = rw (add-one i) (rw (c, e) at h.any);
        left =
            rw (add-one i, take-suc u i Free lt)
            (append_snoc (take i u) (get_or u i Free) (sweep p (drop (suc i) u)) ∙ rw (c, w) at h.left);
      }

  pub swept-end : length u ≤ i → Sweeps p t u gone
  unfolding sweep some
  swept-end le =
      let d : drop i u ≡ [] = drop_of_length-le u le in
      record {
        any = sym (or-false gone) ∙ rw d at h.any;
        left = sym (append-nil u) ∙ rw (take_all i u le, d) at h.left;
      }

pub swept_kept : (p : State → Bool) (s : Slot) → meets p s ≡ false → s ≡ swept_place p s
swept_kept p s e = rw e refl

-- where the test is true of no place, all stay
pub sweep-none : (p : State → Bool) (t : List Slot) → some (meets p) t ≡ false → t ≡ sweep p t
unfolding sweep some
sweep-none p [] e = refl
sweep-none p (s ∷ t) e = let n = neither (meets p s) (some (meets p) t) e in cc (swept_kept p s n.0, sweep-none p t n.1)

-- a room emptied

pub length-empty : (kind : CircuitKind) → length (empty_room kind) ≡ places
unfolding empty_room
length-empty kind = length-tabulate (empty_place kind) places

empty-at : (kind : CircuitKind) (i : ℕ) → i < places → get_or (empty_room kind) i Free ≡ empty_place kind i
unfolding empty_room
empty-at kind i lt = get_or-tabulate (empty_place kind) places i Free lt

module _ (kind : CircuitKind) (ws : List ℕ) (i : ℕ) (lt : i < places) where
  pub empty-step : take (i + 1) (set (table_of ws) i (empty_place kind i)) ++ drop (i + 1) (empty_room kind)
      ≡ take i (table_of ws) ++ drop i (empty_room kind)
  empty-step =
      rw (
        add-one i,
        take-suc-set (table_of ws) i (empty_place kind i) (rw length-table (omega arith)),
        drop-cons (empty_room kind) i Free (rw length-empty (omega arith)),
        empty-at kind i lt,
      )
      (append_snoc (take i (table_of ws)) (empty_place kind i) (drop (suc i) (empty_room kind)))

pub empty-end : (kind : CircuitKind) (ws : List ℕ) (i : ℕ) → places ≤ i → table_of ws ≡ take i (table_of ws) ++ drop i (empty_room kind)
empty-end kind ws i le =
    let h : length (empty_room kind) ≤ i = rw length-empty (omega arith) in
    rw (take_all i (table_of ws) (rw length-table (omega arith)), drop_of_length-le (empty_room kind) h)
    (sym (append-nil (table_of ws)))
