-- No call changes which circuits there are, and a record that stood before a call and stands no more went by a tick at its expiry, by its circuit's release
-- where it was Planned, or by its circuit's clear. For WhyLaws.
use Prim.Native.Nat.{ℕ, ◌≤◌}
use native.Mathlib.Omega.{arith}
use mathlib.Core.Path.{◌≡◌, refl, sym, ap, ◌∙◌}
use mathlib.Core.Logic.{◌≢◌}
use mathlib.Core.Bool.{Bool, true, false}
use mathlib.Core.List.{List, [], ◌∷◌, map}
use lib.Dec.{eqb}
use borrow.Author.Tests.{eqb-true, eqb-false, leb-true}
use Rattle.basics.specs.Levels.{has_level}
use Rattle.basics.specs.declared.refusal.Refusal.{Refusal}
use Rattle.basics.proofs.BoolLaws.{by-test}
use Rattle.adjacency.specs.Keys.{same_key, key_on}
use Rattle.adjacency.specs.Place.{expired_by, planned_state}
use Rattle.adjacency.specs.Record.{expiry_of}
use Rattle.adjacency.specs.declared.place.Slot.{Slot}
use Rattle.adjacency.specs.declared.record.Key.{Key}
use Rattle.adjacency.specs.declared.record.State.{State}
use Rattle.adjacency.proofs.KeysLaws.{same_key-eq}
use Rattle.room.specs.Accept.{kept}
use Rattle.room.specs.Gather.{gather, first, keep}
use Rattle.room.specs.Table.{find, crowded, sweep}
use Rattle.room.proofs.TableLaws.{find-is, gather-sweep, find-put-same, find-put-other}
use Rattle.timers.specs.Hellos.{Hellos}
use Rattle.settings.specs.Mode.{is_running}
use Rattle.settings.specs.Settings.{enabled_levels}
use Rattle.settings.specs.declared.circuit.Circuit.{Circuit}
use Rattle.control.specs.Common.{Common, circuit_of}
use Rattle.model.specs.Answers.{Answer, TimersAnswer}
use Rattle.chunks.specs.Chunks.{Unfinished, NoFrame, Frame, Joined, Refused as RefusedChunk, As, join}
use Rattle.model.specs.Gateway.{Room, Gateway, numbered, no_room, room_of, record_at, unfinished_on, with_frames, with_unfinished}
use Rattle.model.specs.Receive.{Acted, refuse, accepted, receive}
use Rattle.model.specs.Step.{Local, Receive, Release, Clear, CsnpComplete, LookUp, LinkMetric, NextHello, Global, Tick, DatabaseComplete, Waiting, Piece, Begin, Chunk, End, Call, At, Over, Hand, asks_level, csnp_complete, look_up, link_metric_of, next_hello, act, lift, on, at, Judged, Refused as RefusedCall, Sweep, Tell, none_of, is_back, tick_of, database_of, judge, swept_room, carry, chunked, ended, hand, hand_on, step}
use Rattle.model.proofs.Lists.{renew-other, numbered-map}
use Rattle.model.proofs.Near.{circuit_of-same}
use Rattle.reasons.specs.Holds.{Went}
use Rattle.reasons.specs.Why.{stands_on, standing}
use Rattle.reasons.proofs.FrameLaws.{Comes, turned, taken, receive-comes, renew-there}
use Rattle.std.specs.Prelude.{Option, Some, None}

-- ---- rooms by number

swept_at : (clock : ℕ) (rs : List Room) (n : ℕ) → numbered (map (swept_room clock) rs) n no_room ≡ swept_room clock (numbered rs n no_room)
unfolding sweep
swept_at clock rs n = numbered-map (swept_room clock) rs n no_room

-- ---- a record that goes from a room

keep-lost : (p : State → Bool) (l : List State) (v : State) → first l ≡ Some v → first (keep p l) ≡ None → p v ≡ true
unfolding first keep
keep-lost p [] v e g = cc
keep-lost p (s ∷ l) v e g = let z : s ≡ v = cc in by-test (p s) (λ a. rw (← z) a) (λ a. cc)

sweep-lost : (p : State → Bool) (k : Key) (t : List Slot) (v : State) → find k t ≡ Some v → find k (sweep p t) ≡ None → p v ≡ true
sweep-lost p k t v e g =
    keep-lost p (gather k t) v (sym (find-is k t) ∙ e) (cc (find-is k (sweep p t), gather-sweep p k t))

-- what a frame leaves keeps every record
kept-lost : (j k : Key) (after : Option State) (t : List Slot) (v : State) → crowded k t ≡ false → find j t ≡ Some v → find j (kept k after t) ≡ None
    → ⊥
unfolding kept
kept-lost j k None t v f e g = let z : ◌≡◌ {A = ℕ} 0 1 = cc in omega arith
kept-lost j k (Some s) t v f e g =
    let z : ◌≡◌ {A = ℕ} 0 1 =
    by-test (same_key j k) (λ a. let q = same_key-eq j k a in cc (find-put-same k s t f)) (λ a. cc (find-put-other j k s t a)) in
    omega arith

-- ---- a call on a circuit

-- what the loss of a record in this state says of the call
abbrev pub LostBy : Local → State → Type 0
LostBy (Receive mac frame b) v = ⊥
LostBy Release v = planned_state v ≡ true
LostBy Clear v = Unit {0}
LostBy (CsnpComplete level) v = ⊥
LostBy (LookUp k) v = ⊥
LostBy LinkMetric v = ⊥
LostBy (NextHello level) v = ⊥

module _ (n : ℕ) (s : Circuit) (c : Common) (r : Room) where
  -- the circuits and the room are as they were
  abbrev Leaves : Acted → Type 0
  Leaves a = (a.common.circuits ≡ c.circuits) × (a.room ≡ r)

  csnp-leaves : (level : ℕ) → Leaves (csnp_complete n s level c r)
  unfolding csnp_complete refuse
  csnp-leaves level =
      by-test (has_level s.levels level)
      (λ e. by-test (is_running c.timers.mode) (λ m. rw (e, m) (refl, refl)) (λ m. rw (e, m) (refl, refl))) (λ e. rw e (refl, refl))

  look-leaves : (k : Key) → Leaves (look_up s k c r)
  unfolding look_up refuse
  look-leaves k = by-test (asks_level s.kind s.levels k.level) (λ e. rw e (refl, refl)) (λ e. rw e (refl, refl))

  hello-leaves : (level : ℕ) → Leaves (next_hello n s level c r)
  unfolding next_hello refuse
  hello-leaves level = by-test (has_level s.levels level) (λ e. rw e (refl, refl)) (λ e. rw e (refl, refl))

  receive-circuits : (mac : ℕ) (frame b : List ℕ) → Comes n s mac frame b c r → (receive n s mac frame b c r).common.circuits ≡ c.circuits
  unfolding refuse accepted
  receive-circuits mac frame b (turned x t) = rw t refl
  receive-circuits mac frame b (taken t) = rw t.acts refl

  act-circuits : (l : Local) → (act n s l c r).common.circuits ≡ c.circuits
  unfolding act link_metric_of
  act-circuits (Receive mac frame b) = receive-circuits mac frame b (receive-comes n s mac frame b c r)
  act-circuits Release = refl
  act-circuits Clear = refl
  act-circuits (CsnpComplete level) = (csnp-leaves level).0
  act-circuits (LookUp k) = (look-leaves k).0
  act-circuits LinkMetric = refl
  act-circuits (NextHello level) = (hello-leaves level).0

  module _ (j : Key) (v : State) (stood : find j r.slots ≡ Some v) where
    same-lost : (t : Room) → t ≡ r → find j t.slots ≡ None → ⊥
    same-lost t q e = let z : ◌≡◌ {A = ℕ} 0 1 = cc in omega arith

    receive-lost : (mac : ℕ) (frame b : List ℕ) → Comes n s mac frame b c r → find j (receive n s mac frame b c r).room.slots ≡ None → ⊥
    unfolding refuse accepted
    receive-lost mac frame b (turned x t) e = same-lost r refl (rw t at e)
    receive-lost mac frame b (taken t) e = kept-lost j _ t.after r.slots v t.free stood (rw t.acts at e)

    act-lost : (l : Local) → find j (act n s l c r).room.slots ≡ None → LostBy l v
    unfolding act link_metric_of
    act-lost (Receive mac frame b) e = receive-lost mac frame b (receive-comes n s mac frame b c r) e
    act-lost Release e = sweep-lost planned_state j r.slots v stood e
    act-lost Clear e = tt
    act-lost (CsnpComplete level) e = same-lost _ (csnp-leaves level).1 e
    act-lost (LookUp k) e = same-lost _ (look-leaves k).1 e
    act-lost LinkMetric e = same-lost r refl e
    act-lost (NextHello level) e = same-lost _ (hello-leaves level).1 e

on-circuits : (g : Gateway) (m : ℕ) (l : Local) (q : Option Circuit) → (on g m l q).next.common.circuits ≡ g.common.circuits
unfolding on lift
on-circuits g m l None = refl
on-circuits g m l (Some s) = act-circuits m s g.common (room_of g m) l

-- a room that has a record is there
room-there : (g : Gateway) (m : ℕ) (j : Key) (v : State) → find j (room_of g m).slots ≡ Some v → room_of g m ≡ no_room → ⊥
unfolding find
room-there g m j v e q = let w = ap (λ (r : Room). find j r.slots) q in let z : ◌≡◌ {A = ℕ} 0 1 = cc in omega arith

module _ (g : Gateway) (m : ℕ) (s : Circuit) (l : Local) (j : Key) (v : State) where
  lift-lost : find j (room_of g m).slots ≡ Some v → find j (room_of (lift g m (act m s l)).next m).slots ≡ None → LostBy l v
  unfolding lift
  lift-lost p e =
      act-lost m s g.common (room_of g m) j v p l
      (rw (renew-there g.rooms m no_room (act m s l g.common (room_of g m)).room (room-there g m j v p)) at e)

  lift-away : (n : ℕ) → m ≢ n → room_of (lift g m (act m s l)).next n ≡ room_of g n
  unfolding lift
  lift-away n h = renew-other g.rooms m n _ no_room (λ e. h (sym e))

on-lost : (g : Gateway) (m : ℕ) (l : Local) (q : Option Circuit) (n : ℕ) (j : Key) (v : State) → record_at g n j ≡ Some v
    → record_at (on g m l q).next n j ≡ None → (m ≡ n) × LostBy l v
unfolding on record_at
on-lost g m l None n j v p e = absurd (let z : ◌≡◌ {A = ℕ} 0 1 = cc in omega arith)
on-lost g m l (Some s) n j v p e =
    by-test (eqb m n)
    (λ a. let q = eqb-true m n a in (q, lift-lost g m s l j v (rw (← q) at p) (rw (← q) at e)))
    (λ a. absurd (let w = lift-away g m s l j v n (eqb-false m n a) in let z : ◌≡◌ {A = ℕ} 0 1 = cc in omega arith))

-- ---- a call that names none

abbrev pub LostOver : Global → State → Type 0
LostOver (Tick clock) v = expiry_of v ≤ clock
LostOver (DatabaseComplete level) v = ⊥
LostOver Waiting v = ⊥

-- what such a call leaves, and what the loss of a record says of it
record Carries (g : Gateway) (w : Global) (d : Judged) : Type 0 where
  circuits : (carry g d).next.common.circuits ≡ g.common.circuits
  lost : (n : ℕ) (j : Key) (v : State) → record_at g n j ≡ Some v → record_at (carry g d).next n j ≡ None → LostOver w v

module _ (g : Gateway) where
  refused-carries : (w : Global) (x : Refusal) → Carries g w (RefusedCall x)
  unfolding carry
  refused-carries w x = record { circuits = refl; lost = λ n j v p e. absurd (let z : ◌≡◌ {A = ℕ} 0 1 = cc in omega arith) }

  told-carries : (w : Global) (c : Common) (a : Answer) → c.circuits ≡ g.common.circuits → Carries g w (Tell c a)
  unfolding carry record_at
  told-carries w c a q = record { circuits = q; lost = λ n j v p e. absurd (let z : ◌≡◌ {A = ℕ} 0 1 = cc in omega arith) }

  swept-carries : (clock : ℕ) (c : Common) (hellos : Hellos) (t : TimersAnswer) → c.circuits ≡ g.common.circuits
      → Carries g (Tick clock) (Sweep clock c hellos t)
  unfolding carry record_at
  swept-carries clock c hellos t q =
      record {
        circuits = q;
        lost = λ n j v p e. leb-true (expiry_of v) clock (sweep-lost (expired_by clock) j (room_of g n).slots v p (rw (swept_at clock g.rooms n) at e));
      }

  judge-carries : (w : Global) → Carries g w (judge g.common w)
  unfolding judge tick_of database_of
  judge-carries (Tick clock) =
      by-test (none_of g.common.circuits) (λ e. rw e (told-carries _ _ _ refl))
      (λ e. by-test (is_back clock g.common) (λ b. rw (e, b) (refused-carries _ _)) (λ b. rw (e, b) (swept-carries clock _ _ _ refl)))
  judge-carries (DatabaseComplete level) =
      by-test (has_level (enabled_levels g.common.circuits) level)
      (λ e. by-test (is_running g.common.timers.mode) (λ m. rw (e, m) (refused-carries _ _)) (λ m. rw (e, m) (told-carries _ _ _ refl)))
      (λ e. rw e (refused-carries _ _))
  judge-carries Waiting = told-carries _ _ _ refl

-- ---- a frame in chunks: an end is a receive, and no record is lost

record Hands (g d : Gateway) : Type 0 where
  circuits : d.common.circuits ≡ g.common.circuits
  lost : (n : ℕ) (j : Key) (v : State) → record_at g n j ≡ Some v → record_at d n j ≡ None → ⊥

module _ (g : Gateway) where
  -- the rooms are as they were
  same-hands : (u : List Unfinished) → Hands g (with_frames g u)
  unfolding record_at
  same-hands u = record { circuits = refl; lost = λ n j v p e. let z : ◌≡◌ {A = ℕ} 0 1 = cc in omega arith }

  chunk-hands : (m : ℕ) (j : Joined) → Hands g (chunked g m j).next
  unfolding chunked
  chunk-hands m (RefusedChunk x) = same-hands _
  chunk-hands m (As u) = same-hands _

  end-hands : (m : ℕ) (b : List ℕ) (u : Unfinished) → Hands g (ended g m b u).next
  unfolding ended at record_at
  end-hands m b NoFrame = same-hands _
  end-hands m b (Frame mac octets) =
      record {
        circuits = on-circuits (with_unfinished g m NoFrame) m (Receive mac octets b) (circuit_of g.common m);
        lost = λ n j v p e. (on-lost (with_unfinished g m NoFrame) m (Receive mac octets b) (circuit_of g.common m) n j v p e).1;
      }

  hands : (m : ℕ) (p : Piece) (q : Option Circuit) → Hands g (hand_on g m p q).next
  unfolding hand_on hand
  hands m p None = same-hands _
  hands m (Begin mac) (Some s) = same-hands _
  hands m (Chunk octets) (Some s) = chunk-hands m (join (unfinished_on g m) octets)
  hands m (End b) (Some s) = end-hands m b (unfinished_on g m)

-- ---- every call

pub circuits-same : (g : Gateway) (c : Call) → (step g c).next.common.circuits ≡ g.common.circuits
unfolding step at
circuits-same g (At m l) = on-circuits g m l (circuit_of g.common m)
circuits-same g (Over w) = (judge-carries g w).circuits
circuits-same g (Hand m p) = (hands g m p (circuit_of g.common m)).circuits

abbrev pub LostIn : Call → ℕ → State → Type 0
LostIn (At m l) n v = (m ≡ n) × LostBy l v
LostIn (Over w) n v = LostOver w v
LostIn (Hand m p) n v = ⊥

step-lost : (g : Gateway) (c : Call) (n : ℕ) (j : Key) (v : State) → record_at g n j ≡ Some v → record_at (step g c).next n j ≡ None → LostIn c n v
unfolding step at
step-lost g (At m l) n j v p e = on-lost g m l (circuit_of g.common m) n j v p e
step-lost g (Over w) n j v p e = (judge-carries g w).lost n j v p e
step-lost g (Hand m i) n j v p e = (hands g m i (circuit_of g.common m)).lost n j v p e

-- of the record that is asked for, by the same key before and after
stands-lost : (g : Gateway) (c : Call) (n : ℕ) (k : Key) (v : State) (q : Option Circuit) → stands_on g n k q ≡ Some v
    → stands_on (step g c).next n k q ≡ None → LostIn c n v
unfolding stands_on
stands-lost g c n k v None p e = absurd (let z : ◌≡◌ {A = ℕ} 0 1 = cc in omega arith)
stands-lost g c n k v (Some s) p e =
    by-test (asks_level s.kind s.levels k.level) (λ a. step-lost g c n (key_on s.kind k) v (rw a at p) (rw a at e))
    (λ a. absurd (let w = rw a at p in let z : ◌≡◌ {A = ℕ} 0 1 = cc in omega arith))

pub went-lost : (g : Gateway) (c : Call) (n : ℕ) (k : Key) (v : State) → Went g c n k v → LostIn c n v
unfolding standing
went-lost g c n k v w =
    stands-lost g c n k v (circuit_of g.common n) w.stood (rw (circuit_of-same g.common (step g c).next.common (circuits-same g c) n) at w.gone)
