-- The numbers that a call is refused by, proved of the step: a frame's stage by stage, then every call's.
use Prim.Native.Nat.{ℕ, ◌+◌}
use mathlib.Core.Path.{◌≡◌, refl, sym, ap, ◌∙◌}
use mathlib.Core.Bool.{Bool, true, false, cond}
use mathlib.Core.List.{List, [], ◌∷◌, ◌++◌}
use lib.ListN.{length}
use lib.Dec.{eqb, ltb}
use Rattle.basics.proofs.BoolLaws.{or-true}
use Rattle.basics.specs.Levels.{has_level}
use Rattle.basics.specs.declared.kind.CircuitKind.{CircuitKind}
use Rattle.basics.specs.declared.refusal.Refusal.{Refusal}
use Rattle.basics.specs.declared.refusal.Refusal.TheVariants.{TlvPastEnd, BadTlv, TooLong}
use Rattle.tlv.specs.Tlv.{tlvs, cut_at}
use Rattle.hello.specs.Header.{not_hello, bad_length}
use Rattle.hello.specs.Hello.{rule_fault, refused_at, tlvs_read, pdu_read, layout_read, hello_read}
use Rattle.hello.specs.declared.read.Hello.{Hello}
use Rattle.adjacency.specs.Keys.{key_in}
use Rattle.adjacency.specs.React.{react_of, accepted_by}
use Rattle.adjacency.specs.Step.{wrong_source, wrong_neighbor}
use Rattle.adjacency.specs.declared.record.Key.{Key}
use Rattle.adjacency.specs.declared.step.Here.{Here}
use Rattle.adjacency.specs.declared.place.Slot.{Slot}
use Rattle.room.specs.Accept.{if_room, decided}
use Rattle.room.specs.Table.{find, crowded}
use Rattle.settings.specs.Mode.{is_running}
use Rattle.settings.specs.Settings.{enabled_levels}
use Rattle.settings.specs.declared.circuit.Circuit.{Circuit}
use Rattle.control.specs.Common.{Common, circuit_of}
use Rattle.chunks.specs.Chunks.{Unfinished, NoFrame, Frame, Joined, Refused as RefusedChunk, As, most_octets, join}
use Rattle.model.specs.Answers.{Answer, Refused, Received, Ticked, Told}
use Rattle.model.specs.Gateway.{Gateway, Room, unfinished_on, with_unfinished}
use Rattle.model.specs.Numbers.{refusal_no}
use Rattle.model.specs.Receive.{Acted, refuse, here_of, accepted, reacted, decided_in, checked, read_in, is_short, receive}
use Rattle.model.specs.Step.{Local, Receive, Release, Clear, CsnpComplete, LookUp, LinkMetric, NextHello, Global, Tick, DatabaseComplete, Waiting, Piece, Begin, Chunk, End, At, Over, Hand, asks_level, csnp_complete, look_up, link_metric_of, next_hello, act, lift, on, at, chunked, ended, hand, hand_on, none_of, is_back, Judged, tick_of, database_of, judge, carry, step}
use Rattle.model.specs.Refusals.{frame_numbers, numbers_at, numbers_over, numbers_to, is_one_of, RefusesByNumber}
use Rattle.std.specs.Prelude.{Option, Some, None, Result, Ok, Err}
use Rattle.adjacency.specs.React.{Reaction}
use Rattle.hello.specs.declared.header.Layout.{Layout}

-- a test of both branches is one of the whole
cond-passes : {A : Type 0} (f : A → Bool) (t : Bool) (p q : A) → f p ≡ true → f q ≡ true → f (cond t p q) ≡ true
cond-passes f true p q x y = x
cond-passes f false p q x y = y

-- an answer that, if it is a refusal, is by one of these numbers
abbrev within : List ℕ → Answer → Bool
within ns (Refused x) = is_one_of (refusal_no x) ns
within ns (Received f) = true
within ns (Ticked lost hellos t) = true
within ns (Told f) = true

abbrev acted_within : List ℕ → Acted → Bool
acted_within ns a = within ns a.answer

abbrev judged_within : Gateway → List ℕ → Judged → Bool
judged_within g ns j = within ns (carry g j).answer

refused-within : (ns : List ℕ) (a : Answer) (x : Refusal) → within ns a ≡ true → a ≡ Refused x → is_one_of (refusal_no x) ns ≡ true
refused-within ns a x w e = sym (ap (within ns) e) ∙ w

within_more : (n : ℕ) (ns : List ℕ) (a : Answer) → within ns a ≡ true → within (n ∷ ns) a ≡ true
unfolding is_one_of
within_more n ns (Refused x) w = rw w (or-true (eqb (refusal_no x) n))
within_more n ns (Received f) w = refl
within_more n ns (Ticked lost hellos t) w = refl
within_more n ns (Told f) w = refl

-- ---- a frame

abbrev is_frames : Refusal → Bool
is_frames x = is_one_of (refusal_no x) frame_numbers

-- 3 to 6
abbrev read_within : Result Hello Refusal → Bool
read_within (Err x) = is_frames x
read_within (Ok h) = true

refused-passes : (why : ℕ → Refusal) (t : Option ℕ) (r : Result Hello Refusal) → ((n : ℕ) → is_frames (why n) ≡ true) → read_within r ≡ true → read_within (refused_at why t r) ≡ true
unfolding refused_at
refused-passes why None r x y = y
refused-passes why (Some n) r x y = x (n + 1)

layout-within : (l : Option Layout) (mac : ℕ) (s : List ℕ) → read_within (layout_read l mac s) ≡ true
unfolding layout_read pdu_read tlvs_read is_one_of
layout-within None mac s = refl
layout-within (Some l) mac s =
    cond-passes read_within (bad_length s l.header) _ _ refl
    (refused-passes TlvPastEnd (cut_at (tlvs _ l.header)) _ (λ n. refl) (refused-passes BadTlv (rule_fault l _) _ (λ n. refl) refl))

read-within : (kind : CircuitKind) (mac : ℕ) (s : List ℕ) → read_within (hello_read kind mac s) ≡ true
unfolding hello_read is_one_of
read-within kind mac s = cond-passes read_within (not_hello s) _ _ refl (layout-within _ mac s)

-- 8 and 9
abbrev reaction_within : Reaction → Bool
reaction_within (Err x) = is_frames x
reaction_within (Ok (after, reply, line)) = true

room_within : (full : Bool) (r : Reaction) → reaction_within r ≡ true → reaction_within (if_room full r) ≡ true
unfolding if_room is_one_of
room_within full (Err x) e = e
room_within full (Ok (after, reply, line)) e = cond-passes reaction_within full _ _ refl refl

decided-within : (here : Here) (k : Key) (h : Hello) (t : List Slot) → reaction_within (decided here k h t) ≡ true
unfolding decided react_of accepted_by is_one_of
decided-within here k h t =
    room_within (crowded k t) (react_of here h (find k t)) (cond-passes reaction_within (wrong_neighbor here _ h h.link) _ _ refl refl)

module _ (n : ℕ) (s : Circuit) (mac : ℕ) (b : List ℕ) (c : Common) (r : Room) where
  reacted-within : (h : Hello) (k : Key) (d : Reaction) → reaction_within d ≡ true → within frame_numbers (reacted n s h k b d c r).answer ≡ true
  unfolding reacted refuse accepted
  reacted-within h k (Err x) e = e
  reacted-within h k (Ok (after, reply, line)) e = refl

  -- 7
  checked-within : (h : Hello) → within frame_numbers (checked n s mac b h c r).answer ≡ true
  unfolding checked decided_in refuse is_one_of
  checked-within h =
      cond-passes (acted_within frame_numbers) (wrong_source s.levels c.system h) _ _ refl
      (reacted-within h (key_in s.kind mac h) _ (decided-within (here_of c s) (key_in s.kind mac h) h r.slots))

  read-answers : (d : Result Hello Refusal) → read_within d ≡ true → within frame_numbers (read_in n s mac b d c r).answer ≡ true
  unfolding read_in refuse
  read-answers (Err x) e = e
  read-answers (Ok h) e = checked-within h

  -- 2
  receive-within : (frame : List ℕ) → within frame_numbers (receive n s mac frame b c r).answer ≡ true
  unfolding receive refuse is_one_of
  receive-within frame =
      cond-passes (λ (f : Common → Room → Acted). acted_within frame_numbers (f c r)) (is_short b) _ _ refl (read-answers _ (read-within s.kind s.mac frame))

-- ---- every call

act-within : (n : ℕ) (s : Circuit) (l : Local) (c : Common) (r : Room) → within (numbers_at l) (act n s l c r).answer ≡ true
unfolding act csnp_complete look_up link_metric_of next_hello refuse is_one_of
act-within n s (Receive mac frame b) c r = within_more 1 frame_numbers (receive n s mac frame b c r).answer (receive-within n s mac b c r frame)
act-within n s Release c r = refl
act-within n s Clear c r = refl
act-within n s (CsnpComplete level) c r =
    cond-passes (acted_within (1 ∷ 11 ∷ [])) (has_level s.levels level) _ _
    (cond-passes (acted_within (1 ∷ 11 ∷ [])) (is_running c.timers.mode) _ _ refl refl) refl
act-within n s (LookUp k) c r = cond-passes (acted_within (1 ∷ [])) (asks_level s.kind s.levels k.level) _ _ refl refl
act-within n s LinkMetric c r = refl
act-within n s (NextHello level) c r = cond-passes (acted_within (1 ∷ [])) (has_level s.levels level) _ _ refl refl

no-circuit : (l : Local) → is_one_of 1 (numbers_at l) ≡ true
unfolding is_one_of
no-circuit (Receive mac frame b) = refl
no-circuit Release = refl
no-circuit Clear = refl
no-circuit (CsnpComplete level) = refl
no-circuit (LookUp k) = refl
no-circuit LinkMetric = refl
no-circuit (NextHello level) = refl

on-within : (g : Gateway) (n : ℕ) (l : Local) (q : Option Circuit) → within (numbers_at l) (on g n l q).answer ≡ true
unfolding on lift
on-within g n l None = no-circuit l
on-within g n l (Some s) = act-within n s l g.common _

judge-within : (g : Gateway) (w : Global) → within (numbers_over w) (carry g (judge g.common w)).answer ≡ true
unfolding judge tick_of database_of carry is_one_of
judge-within g (Tick clock) =
    cond-passes (judged_within g (10 ∷ [])) (none_of g.common.circuits) _ _ refl
    (cond-passes (judged_within g (10 ∷ [])) (is_back clock g.common) _ _ refl refl)
judge-within g (DatabaseComplete level) =
    cond-passes (judged_within g (1 ∷ 11 ∷ [])) (has_level (enabled_levels g.common.circuits) level) _ _
    (cond-passes (judged_within g (1 ∷ 11 ∷ [])) (is_running g.common.timers.mode) _ _ refl refl) refl
judge-within g Waiting = refl

chunk-within : (g : Gateway) (n : ℕ) (u : Unfinished) (octets : List ℕ) → within (1 ∷ 13 ∷ 14 ∷ []) (chunked g n (join u octets)).answer ≡ true
unfolding chunked join is_one_of
chunk-within g n NoFrame octets = refl
chunk-within g n (Frame mac joined) octets =
    cond-passes (λ (j : Joined). within (1 ∷ 13 ∷ 14 ∷ []) (chunked g n j).answer) (ltb most_octets (length joined + length octets)) (RefusedChunk TooLong)
    (As (Frame mac (joined ++ octets))) refl refl

module _ (g : Gateway) (n : ℕ) (s : Circuit) (known : circuit_of g.common n ≡ Some s) (mac : ℕ) (frame b : List ℕ) where
  frame-within : within frame_numbers (at g n (Receive mac frame b)).answer ≡ true
  unfolding at on lift act
  frame-within = rw known (receive-within n s mac b g.common _ frame)

  -- "no circuit of that number" apart
  pub received-by : (x : Refusal) → (at g n (Receive mac frame b)).answer ≡ Refused x → is_one_of (refusal_no x) frame_numbers ≡ true
  received-by x e = refused-within frame_numbers (at g n (Receive mac frame b)).answer x frame-within e

ended-within : (g : Gateway) (n : ℕ) (s : Circuit) (b : List ℕ) (u : Unfinished) → circuit_of g.common n ≡ Some s
    → within (1 ∷ 13 ∷ frame_numbers) (ended g n b u).answer ≡ true
unfolding ended is_one_of
ended-within g n s b NoFrame known = refl
ended-within g n s b (Frame mac octets) known =
    let a : Answer = (at (with_unfinished g n NoFrame) n (Receive mac octets b)).answer in
    within_more 1 (13 ∷ frame_numbers) a (within_more 13 frame_numbers a (frame-within (with_unfinished g n NoFrame) n s known mac octets b))

hand-within : (g : Gateway) (n : ℕ) (p : Piece) (q : Option Circuit) → circuit_of g.common n ≡ q → within (numbers_to p) (hand_on g n p q).answer ≡ true
unfolding hand_on hand is_one_of
hand-within g n (Begin mac) None known = refl
hand-within g n (Chunk octets) None known = refl
hand-within g n (End b) None known = refl
hand-within g n (Begin mac) (Some s) known = refl
hand-within g n (Chunk octets) (Some s) known = chunk-within g n (unfinished_on g n) octets
hand-within g n (End b) (Some s) known = ended-within g n s b (unfinished_on g n) known

pub refuses-by-number : RefusesByNumber
unfolding step at
refuses-by-number g (At n l) x e = refused-within (numbers_at l) _ x (on-within g n l (circuit_of g.common n)) e
refuses-by-number g (Over w) x e = refused-within (numbers_over w) _ x (judge-within g w) e
refuses-by-number g (Hand n p) x e = refused-within (numbers_to p) _ x (hand-within g n p (circuit_of g.common n) refl) e
