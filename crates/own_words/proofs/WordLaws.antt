-- The laws of the gateway's words: a part put back changes its own room or the common part, and nothing else; what a call on a circuit
-- meets. Every call's proof cites these.
use Prim.Native.Nat.{ℕ, zero, suc, ◌+◌, ◌-◌, ◌<◌, ◌≤◌}
use native.Mathlib.Omega.{arith}
use mathlib.Core.Path.{◌≡◌, refl, ap, sym, ◌∙◌}
use mathlib.Core.Logic.{inl, inr, ◌⊎◌, ◌≢◌}
use mathlib.Core.List.{List, []}
use lib.ListN.{length, get_or, set, take, drop, length-drop}
use lib.Seq.{ext_get_or, get_or-take, get_or-drop, length-take-le, set-get_or}
use lib.Dec.{ltb}
use borrow.Author.Tests.{ltb-true, ltb-false}
use borrow.Rule.Slice.PartMut.{put_mid}
use Rattle.basics.specs.Mask.{circuits}
use Rattle.basics.proofs.BoolLaws.{by-test}
use Rattle.basics.specs.declared.refusal.Refusal.{Refusal}
use Rattle.basics.specs.declared.refusal.Refusal.TheVariants.{NoCircuit}
use Rattle.slots.specs.Slots.{table_of, room_words}
use Rattle.basics.proofs.ListLaws.{tabulate-set, tabulate-same, get_or-tabulate, length-tabulate}
use Rattle.control.specs.Common.{Common, circuit_of, Chooses}
use Rattle.control.specs.Words.{common_of, control_words}
use Rattle.basics.proofs.PartLaws.{length_back, part_same, outside}
use Rattle.settings.specs.declared.circuit.Circuit.{Circuit}
use Rattle.model.specs.Answers.{Answer, Refused}
use Rattle.model.specs.Gateway.{Gateway, Room, with_rooms, with_common, no_room, numbered, renew, room_of}
use Rattle.model.specs.Receive.{Acted, refuse}
use Rattle.model.specs.Step.{Outcome, Local, At, lent, lift, on, at, step, refused, act}
use Rattle.own_words.specs.Words.{own_words, room_place, room_at, gateway_of, Meets}
use Rattle.basics.specs.Lists.{part}
use Rattle.std.specs.Prelude.{Option, Some, None}

-- ---- a part put back leaves every part that it does not meet

module _ (a e : ℕ) (ws t : List ℕ) (ae : a ≤ e) (el : e ≤ length ws) (lt : length t ≡ e - a) where
  abbrev back : List ℕ
  back = put_mid a (e - a) ws t

  aside : (b k i : ℕ) → i < k → (b + k ≤ a) ⊎ (e ≤ b) → (b + i < a) ⊎ (e ≤ b + i)
  aside b k i h (inl g) = inl (omega arith)
  aside b k i h (inr g) = inr (omega arith)

  pub part-other : (b k : ℕ) → b + k ≤ length ws → (b + k ≤ a) ⊎ (e ≤ b) → part b k back ≡ part b k ws
  part-other b k fits apart =
      let same = length_back a e ws t ae el lt in
      ext_get_or 0 (part b k back) (part b k ws) (long back (omega (arith, same)) ∙ sym (long ws fits))
      (λ i lti.
      let h : i < k = omega (arith, long back (omega (arith, same))) in
      get_or-take k (drop b back) i 0 h ∙ get_or-drop b back i 0 ∙ outside a e ws t ae el lt (b + i) (aside b k i h apart)
      ∙ sym (get_or-take k (drop b ws) i 0 h ∙ get_or-drop b ws i 0))
    where
      long : (xs : List ℕ) → b + k ≤ length xs → length (part b k xs) ≡ k
      long xs g = length-take-le k (drop b xs) (simp length-drop (omega arith))

side : (j i : ℕ) → (j ≡ i → ⊥) → (room_place j + room_words ≤ room_place i) ⊎ (room_place i + room_words ≤ room_place j)
side j i ne =
    by-test (ltb j i) (λ q. inl (omega (arith, ltb-true j i q)))
    (λ q. inr (let g : i ≤ j = ltb-false j i q in let n : j ≢ i = ne in omega arith))

-- ---- the control words put back, and a room's

module _ (ws t : List ℕ) (len : length ws ≡ own_words) where
  pub length-common : length t ≡ control_words → length (put_mid 0 control_words ws t) ≡ own_words
  length-common l = length_back 0 control_words ws t (omega arith) (omega arith) l ∙ len

  pub common-put : length t ≡ control_words → gateway_of (put_mid 0 control_words ws t) ≡ with_common (gateway_of ws) (common_of t)
  unfolding gateway_of room_at
  common-put l =
      let own : part 0 control_words (put_mid 0 control_words ws t) ≡ t = part_same 0 control_words ws t (omega arith) (omega arith) l in
      let r = tabulate-same (room_at (put_mid 0 control_words ws t)) (room_at ws) circuits
      (λ j lj. ap (λ (p : List ℕ). record { slots = table_of p }) (part-other 0 control_words ws t (omega arith) (omega arith) l (room_place j) room_words (omega arith) (inr (omega arith)))) in
      cc (ap common_of own, r)

  module _ (i : ℕ) (lt : i < circuits) (long : length t ≡ room_place i + room_words - room_place i) where
    abbrev a : ℕ
    a = room_place i

    pub length-room : length (put_mid a (a + room_words - a) ws t) ≡ own_words
    length-room = length_back a (a + room_words) ws t (omega arith) (omega arith) long ∙ len

    pub room-same : part a (a + room_words - a) (put_mid a (a + room_words - a) ws t) ≡ t
    room-same = part_same a (a + room_words) ws t (omega arith) (omega arith) long

    pub common-stays : part 0 control_words (put_mid a (a + room_words - a) ws t) ≡ part 0 control_words ws
    common-stays = part-other a (a + room_words) ws t (omega arith) (omega arith) long 0 control_words (omega arith) (inl (omega arith))

    pub room-put : gateway_of (put_mid a (a + room_words - a) ws t) ≡ with_rooms (gateway_of ws) (set (gateway_of ws).rooms i (record { slots = table_of t }))
    unfolding gateway_of room_at
    room-put =
        let b = put_mid a (a + room_words - a) ws t in
        let w : a + room_words - a ≡ room_words = omega arith in
        let own : part a room_words b ≡ t = ap (λ (k : ℕ). take k (drop a b)) (sym w) ∙ room-same in
        let r = tabulate-set (room_at b) (room_at ws) circuits i (record { slots = table_of t }) lt (ap (λ (p : List ℕ). record { slots = table_of p }) own)
        (λ j lj ne. ap (λ (p : List ℕ). record { slots = table_of p }) (part-other a (a + room_words) ws t (omega arith) (omega arith) long (room_place j) room_words (omega arith) (side j i ne))) in
        cc (ap common_of common-stays, r)

-- ---- what is read

pub common-at : (ws : List ℕ) → common_of (part 0 control_words ws) ≡ (gateway_of ws).common
unfolding gateway_of
common-at ws = refl

pub length-rooms : (ws : List ℕ) → length (gateway_of ws).rooms ≡ circuits
unfolding gateway_of
length-rooms ws = length-tabulate (room_at ws) circuits

-- the room of circuit i (from 0), as the code lends it
pub room-at : (ws : List ℕ) (i : ℕ) → i < circuits → table_of (part (room_place i) (room_place i + room_words - room_place i) ws) ≡ (get_or (gateway_of ws).rooms i no_room).slots
unfolding gateway_of room_at
room-at ws i lt =
    let w : room_place i + room_words - room_place i ≡ room_words = omega arith in
    ap (λ (k : ℕ). table_of (part (room_place i) k ws)) w ∙ ap (λ (r : Room). r.slots) (sym (get_or-tabulate (room_at ws) circuits i no_room lt))

-- the room of circuit n (from 1)
pub room-of : (ws : List ℕ) (n : ℕ) → 0 < n → n ≤ circuits
    → table_of (part (room_place (n - 1)) (room_place (n - 1) + room_words - room_place (n - 1)) ws) ≡ (room_of (gateway_of ws) n).slots
unfolding numbered
room-of ws zero p q = absurd (omega arith)
room-of ws (suc i) p q =
    let z : suc i - 1 ≡ i = omega arith in
    ap (λ (k : ℕ). table_of (part (room_place k) (room_place k + room_words - room_place k) ws)) z ∙ room-at ws i (omega arith)

pub renew-at : {A : Type 0} (l : List A) (n : ℕ) (r : A) → 0 < n → renew l n r ≡ set l (n - 1) r
unfolding renew
renew-at l zero r p = absurd (omega arith)
renew-at l (suc i) r p = let z : suc i - 1 ≡ i = omega arith in ap (λ (k : ℕ). set l k r) (sym z)

pub numbered-at : {A : Type 0} (l : List A) (n : ℕ) (d : A) → 0 < n → numbered l n d ≡ get_or l (n - 1) d
unfolding numbered
numbered-at l zero d p = absurd (omega arith)
numbered-at l (suc i) d p = let z : suc i - 1 ≡ i = omega arith in ap (λ (k : ℕ). get_or l k d) (sym z)

pub same-room : (l : List Room) (n : ℕ) → renew l n (numbered l n no_room) ≡ l
unfolding renew numbered
same-room l zero = refl
same-room l (suc i) = set-get_or l i no_room

pub choice : (ws : List ℕ) (n : ℕ) (r r' : Option Circuit) → Chooses (common_of (part 0 control_words ws)) n r → r ≡ r' → circuit_of (gateway_of ws).common n ≡ r'
unfolding gateway_of
choice ws n r r' c e = sym c.is ∙ e

-- ---- what a call meets

pub along : {a : Answer} {o o' : Outcome} {ws ws' b' : List ℕ} → o ≡ o' → Meets a o ws ws' b' → Meets a o' ws ws' b'
along e m = rw (← e) m

-- a refusal, of the whole gateway and of a call on a circuit
pub refuses-all : (ws b : List ℕ) (x : Refusal) → Meets (Refused x) (refused (gateway_of ws) b x) ws ws b
refuses-all ws b x = record { answer = refl; reply = refl; next = refl; kept = λ y e. refl }

module _ (ws : List ℕ) (n : ℕ) where
  abbrev g : Gateway
  g = gateway_of ws

  pub refuses : (b : List ℕ) (x : Refusal) → Meets (Refused x) (lift g n (refuse b x)) ws ws b
  unfolding lift refuse
  refuses b x =
      let q = same-room g.rooms n in
      record { answer = refl; reply = refl; next = ap (with_rooms g) (sym q); kept = λ y e. refl }

  -- a call that changes nothing
  pub asks : (f : Common → Room → Acted) (a : Answer) → a ≡ (f g.common (room_of g n)).answer → [] ≡ (f g.common (room_of g n)).reply
      → g.common ≡ (f g.common (room_of g n)).common → room_of g n ≡ (f g.common (room_of g n)).room → Meets a (lift g n f) ws ws []
  unfolding lift
  asks f a p q c r =
      record {
        answer = p;
        reply = q;
        next = ap (with_rooms g) (sym (same-room g.rooms n) ∙ ap (renew g.rooms n) r) ∙ ap (λ (x : Common). with_rooms (with_common g x) (renew g.rooms n (f g.common (room_of g n)).room)) c;
        kept = λ y e. refl;
      }

-- refusal 1, and the circuit of the number
module _ (g : Gateway) (n : ℕ) (l : Local) where
  pub no-circuit : circuit_of g.common n ≡ None → refused g (lent l) NoCircuit ≡ step g (At n l)
  unfolding step at on
  no-circuit e = rw e refl

  pub a-circuit : (s : Circuit) → circuit_of g.common n ≡ Some s → lift g n (act n s l) ≡ step g (At n l)
  unfolding step at on
  a-circuit s e = rw e refl
