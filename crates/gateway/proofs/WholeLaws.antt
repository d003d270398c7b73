-- The laws of the lent memories whole: the gateway's own words lent and put back, a frame's words and octets, and what a call then does. The functions of
-- modules whole and pieces cite these.
use Prim.Native.Nat.{ℕ, zero, suc, ◌+◌, ◌≤◌}
use native.Mathlib.Omega.{arith}
use mathlib.Core.Path.{◌≡◌, refl, ap, sym, subst, ◌∙◌}
use mathlib.Core.Logic.{inr}
use mathlib.Core.Bool.{false}
use mathlib.Core.List.{List, [], ◌∷◌}
use lib.ListN.{length, take}
use lib.Seq.{take-take}
use borrow.Rule.Slice.PartMut.{put_mid, put_same, mid_len}
use Rattle.basics.specs.declared.refusal.Refusal.{Refusal}
use Rattle.basics.specs.Mask.{circuits}
use Rattle.basics.specs.Lists.{part}
use Rattle.basics.proofs.ListLaws.{tabulate-same}
use Rattle.basics.proofs.PartLaws.{part_same}
use Rattle.slots.specs.Slots.{table_of, room_words}
use Rattle.chunks.specs.Chunks.{most_octets}
use Rattle.chunks.specs.Words.{slot_words, pending_of, meant}
use Rattle.control.specs.Words.{common_of, control_words}
use Rattle.model.specs.Answers.{Answer, Refused}
use Rattle.model.specs.Gateway.{Gateway, with_frames, no_frames}
use Rattle.model.specs.Step.{Call, Outcome, step}
use Rattle.model.proofs.FrameLaws.{is_hand, framed, step-framed, frames-kept, drops-none}
use Rattle.own_words.specs.Words.{own_words, room_place, room_at, gateway_of, Meets}
use Rattle.gateway.specs.Whole.{gateway_words, slot_place, octets_place, unfinished_at, whole_of, Does}
use Rattle.own_words.proofs.WordLaws.{part-other}

-- ---- a part of a first part

part-take : (a k n : ℕ) (l : List ℕ) → a + k ≤ n → part a k (take n l) ≡ part a k l
part-take zero k n l h = take-take k n l (omega arith)
part-take (suc a) k zero l h = absurd (omega arith)
part-take (suc a) k (suc n) [] h = refl
part-take (suc a) k (suc n) (x ∷ l) h = part-take a k n l (omega arith)

-- the gateway is in its own words
pub own-part : (ws : List ℕ) → gateway_of (part 0 own_words ws) ≡ gateway_of ws
unfolding gateway_of room_at
own-part ws =
    let c = ap common_of (part-take 0 control_words own_words ws (omega arith)) in
    let r = tabulate-same (room_at (part 0 own_words ws)) (room_at ws) circuits
    (λ j lj. ap (λ (p : List ℕ). record { slots = table_of p }) (part-take (room_place j) room_words own_words ws (omega arith))) in
    cc

pub own-control : (ws : List ℕ) → part 0 control_words (part 0 own_words ws) ≡ part 0 control_words ws
own-control ws = part-take 0 control_words own_words ws (omega arith)

-- ---- the own words put back

module _ (ws t : List ℕ) (len : length ws ≡ gateway_words) (lt : length t ≡ length (part 0 own_words ws)) where
  abbrev back : List ℕ
  back = put_mid 0 own_words ws t

  long : length t ≡ own_words
  long = lt ∙ mid_len 0 own_words ws (omega arith)

  pub own_back : part 0 own_words back ≡ t
  own_back = part_same 0 own_words ws t (omega arith) (omega arith) long

  pub gateway-back : gateway_of back ≡ gateway_of t
  gateway-back = sym (own-part back) ∙ ap gateway_of own_back

  pub frames-stay : (fs : List ℕ) → whole_of back fs ≡ with_frames (gateway_of t) (whole_of ws fs).unfinished
  unfolding whole_of unfinished_at
  frames-stay fs =
      let u = tabulate-same (unfinished_at back fs) (unfinished_at ws fs) circuits
      (λ j lj. ap (λ (p : List ℕ). meant (part (octets_place j) most_octets fs) (pending_of p))
      (part-other 0 own_words ws t (omega arith) (omega arith) long (slot_place j) slot_words (omega arith) (inr (omega arith)))) in
      cc (gateway-back, u)

-- what a call of document 01 does, of the gateway with its frames
module _ (ws fs : List ℕ) (c : Call) (plain : is_hand c ≡ false) where
  step-whole : step (whole_of ws fs) c ≡ framed (whole_of ws fs).unfinished (step (gateway_of (part 0 own_words ws)) c)
  unfolding whole_of
  step-whole =
      step-framed (gateway_of ws) (whole_of ws fs).unfinished c plain
      ∙ ap (λ (g : Gateway). framed (whole_of ws fs).unfinished (step g c)) (sym (own-part ws))

-- a call that may change them, and one that only asks
pub lends : (ws t : List ℕ) → length ws ≡ gateway_words → length t ≡ length (part 0 own_words ws) → (c : Call) → is_hand c ≡ false → (a : Answer) (b' : List ℕ)
    → Meets a (step (gateway_of (part 0 own_words ws)) c) (part 0 own_words ws) t b' → Does c a ws (put_mid 0 own_words ws t) b'
lends ws t len lt c plain a b' m fs =
    let s = step-whole ws fs c plain in
    let same : (x : Refusal) → a ≡ Refused x → put_mid 0 own_words ws t ≡ ws = λ x e. ap (put_mid 0 own_words ws) (m.kept x e) ∙ put_same 0 own_words ws in
    record {
      answer = m.answer ∙ sym (ap (λ (o : Outcome). o.answer) s);
      reply = m.reply ∙ sym (ap (λ (o : Outcome). o.reply) s);
      next =
          frames-stay ws t len lt fs ∙ ap (λ (g : Gateway). with_frames g (whole_of ws fs).unfinished) m.next ∙ sym (ap (λ (o : Outcome). o.next) s);
      elsewhere = λ i l w. refl;
      octets = λ x e. refl;
      own = λ x e. ap (part 0 own_words) (same x e);
      kept = λ x e h. same x e;
    }

pub asks-whole : (ws : List ℕ) → length ws ≡ gateway_words → (c : Call) → is_hand c ≡ false → (a : Answer) (b' : List ℕ)
    → Meets a (step (gateway_of (part 0 own_words ws)) c) (part 0 own_words ws) (part 0 own_words ws) b' → Does c a ws ws b'
asks-whole ws len c plain a b' m =
    subst (λ (w : List ℕ). Does c a ws w b') (put_same 0 own_words ws) (lends ws (part 0 own_words ws) len refl c plain a b' m)

-- .. and the other way round: what it does of the own words
pub own-does : {c : Call} {a : Answer} {ws ws' b' : List ℕ} → is_hand c ≡ false → Does c a ws ws' b' → Meets a (step (gateway_of ws) c) ws ws' b'
unfolding whole_of gateway_of
own-does {c} {a} {ws} {ws'} plain d =
    let us = (whole_of ws []).unfinished in
    let s = step-framed (gateway_of ws) us c plain in
    let e = d [] in
    record {
      answer = e.answer ∙ ap (λ (o : Outcome). o.answer) s;
      reply = e.reply ∙ ap (λ (o : Outcome). o.reply) s;
      next =
          ap (λ (g : Gateway). with_frames g no_frames) (e.next ∙ ap (λ (o : Outcome). o.next) s)
          ∙ ap (with_frames (step (gateway_of ws) c).next) (sym (frames-kept (gateway_of ws) c plain));
      kept = λ x q. e.kept x q (drops-none c x plain);
    }
