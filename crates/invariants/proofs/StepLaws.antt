-- Every call keeps what holds of a gateway: of the rooms the calls on a circuit touch their own alone, and a tick sweeps all.
use Prim.Native.Nat.{ℕ, ◌≤◌}
use native.Mathlib.Omega.{arith}
use mathlib.Core.Path.{◌≡◌, refl, sym, ap, ◌∙◌}
use mathlib.Core.Bool.{false}
use mathlib.Core.List.{List}
use borrow.Author.Tests.{leb-false}
use Rattle.basics.proofs.BoolLaws.{by-test}
use Rattle.basics.specs.Levels.{has_level}
use Rattle.adjacency.specs.Record.{expiry_of}
use Rattle.adjacency.specs.declared.record.Key.{Key}
use Rattle.adjacency.specs.declared.record.State.{State}
use Rattle.adjacency.specs.Place.{planned_state, expired_by}
use Rattle.settings.specs.Mode.{is_running}
use Rattle.settings.specs.declared.circuit.Circuit.{Circuit}
use Rattle.settings.specs.declared.setup.Settings.{Settings}
use Rattle.control.specs.Common.{Common, with_clock, circuit_of}
use Rattle.chunks.specs.Chunks.{Unfinished, NoFrame, Frame, Joined, Refused as RefusedChunk, As, join}
use Rattle.model.specs.Gateway.{Room, Gateway, with_rooms, with_common, no_room, numbered, renew, room_of, unfinished_on, with_unfinished}
use Rattle.model.specs.Receive.{Acted, refuse}
use Rattle.model.specs.Step.{Local, Receive, Release, Clear, CsnpComplete, LookUp, LinkMetric, NextHello, Piece, Begin, Chunk, End, Call, At, Over, Hand, asks_level, csnp_complete, look_up, link_metric_of, next_hello, act, lift, on, at, Judged, Refused as RefusedCall, Sweep, Tell, judge, carry, chunked, ended, hand, hand_on, step}
use Rattle.invariants.specs.Invariants.{Octets, Fits, FramesFit, Span}
use Rattle.model.proofs.Near.{circuit_of-same}
use Rattle.invariants.proofs.NumberedLaws.{renew-all}
use Rattle.invariants.proofs.CommonLaws.{Keeps, act-keeps, JudgedOk, judge-ok, step-moves, common-moved}
use Rattle.invariants.proofs.GatewayLaws.{RoomOk, room-empty, room-sweep, RoomsOk, swept_at, Holds}
use Rattle.invariants.proofs.FrameLaws.{step-frames}
use Rattle.invariants.proofs.ReceiveLaws.{ActOk, receive_ok}
use Rattle.std.specs.Prelude.{Option, Some, None}

-- ---- a call on a circuit

module _ (n : ℕ) (c : Common) (s : Circuit) (r : Room) (hold : s.hold ≤ 65535) (ok : RoomOk c.system (Some s) c.clock r.slots) where
  csnp-ok : (level : ℕ) → ActOk c s (csnp_complete n s level c r)
  unfolding csnp_complete refuse
  csnp-ok level =
      by-test (has_level s.levels level)
      (λ e. by-test (is_running c.timers.mode) (λ m. rw (e, m) ok) (λ m. rw (e, m) ok)) (λ e. rw e ok)

  look-ok : (k : Key) → ActOk c s (look_up s k c r)
  unfolding look_up refuse
  look-ok k = by-test (asks_level s.kind s.levels k.level) (λ e. rw e ok) (λ e. rw e ok)

  flags-ok : (level : ℕ) → ActOk c s (next_hello n s level c r)
  unfolding next_hello refuse
  flags-ok level = by-test (has_level s.levels level) (λ e. rw e ok) (λ e. rw e ok)

  act-ok : (l : Local) → ((mac : ℕ) (frame b : List ℕ) → l ≡ Receive mac frame b → Octets frame) → ActOk c s (act n s l c r)
  unfolding act link_metric_of
  act-ok (Receive mac frame b) f = receive_ok c s r hold ok n mac b frame (f mac frame b refl)
  act-ok Release f = room-sweep c.system (Some s) c.clock c.clock planned_state r.slots (λ v e q. q) ok
  act-ok Clear f = room-empty c.system s c.clock
  act-ok (CsnpComplete level) f = csnp-ok level
  act-ok (LookUp k) f = look-ok k
  act-ok LinkMetric f = ok
  act-ok (NextHello level) f = flags-ok level

-- what a sweep leaves expires after the clock
left-span : (old clock : ℕ) → old ≤ clock → (s : State) → expired_by clock s ≡ false → Span old (expiry_of s) → Span clock (expiry_of s)
left-span old clock le s e q =
    let lt = leb-false (expiry_of s) clock e in
    record { low = omega arith; high = omega arith }

module _ (g : Gateway) (h : RoomsOk g) where
  -- the clock moved on, or stood, and the rooms in order by it
  keeps-rooms : (d : Common) (clock : ℕ) (rooms : List Room) → Keeps (with_clock clock g.common) d
      → ((n : ℕ) → RoomOk g.common.system (circuit_of g.common n) clock (numbered rooms n no_room).slots)
      → RoomsOk (with_rooms (with_common g d) rooms)
  keeps-rooms d clock rooms k ok =
      record {
        hold = λ n s e. h.hold n s (sym (circuit_of-same g.common d k.circuits n) ∙ e);
        rooms = λ n. rw (circuit_of-same g.common d k.circuits n, k.clock, k.system) (ok n);
      }

  on-rooms : (n : ℕ) (l : Local) (x : Option Circuit) → circuit_of g.common n ≡ x → Fits (At n l) → RoomsOk (on g n l x).next
  unfolding on lift
  on-rooms n l None e f = h
  on-rooms n l (Some s) e f =
      let ok : RoomOk g.common.system (Some s) g.common.clock (room_of g n).slots = rw e at (h.rooms n) in
      let a : Acted = act n s l g.common (room_of g n) in
      let done : ActOk g.common s a =
      act-ok n g.common s (room_of g n) (h.hold n s e) ok l (λ mac frame b q. f.frame n mac frame b (ap (At n) q)) in
      keeps-rooms a.common g.common.clock (renew g.rooms n a.room) (act-keeps n s g.common (room_of g n) e l)
      (renew-all no_room (λ m r. RoomOk g.common.system (circuit_of g.common m) g.common.clock r.slots) g.rooms n a.room h.rooms (rw e done))

  -- ---- a call that names no circuit

  carry-rooms : (j : Judged) → JudgedOk g.common j → RoomsOk (carry g j).next
  unfolding carry
  carry-rooms (RefusedCall x) k = h
  carry-rooms (Sweep clock d hellos o) (le, k) =
      keeps-rooms d clock _ k
      (λ n.
      rw (swept_at clock g.rooms n)
      (room-sweep g.common.system (circuit_of g.common n) g.common.clock clock (expired_by clock) (room_of g n).slots (left-span g.common.clock clock le) (h.rooms n)))
  carry-rooms (Tell d a) k = keeps-rooms d g.common.clock g.rooms k h.rooms

-- ---- a frame in chunks

-- the frames are nothing to the rooms
pub rooms-aside : (g : Gateway) (n : ℕ) (u : Unfinished) → RoomsOk g → RoomsOk (with_unfinished g n u)
rooms-aside g n u h = record { hold = h.hold; rooms = h.rooms }

-- a receive of octets fits
fits-receive : (n mac : ℕ) (frame b : List ℕ) → Octets frame → Fits (At n (Receive mac frame b))
fits-receive n mac frame b o =
    record {
      frame = λ m x f c e. let q : frame ≡ f = cc in rw (← q) o;
      chunk = λ m x e. absurd (let z : ◌≡◌ {A = ℕ} 0 1 = cc in omega arith);
    }

module _ (g : Gateway) (h : RoomsOk g) (frames : FramesFit g) where
  chunk-rooms : (n : ℕ) (j : Joined) → RoomsOk (chunked g n j).next
  unfolding chunked
  chunk-rooms n (RefusedChunk x) = h
  chunk-rooms n (As u) = rooms-aside g n u h

  end-rooms : (n : ℕ) (b : List ℕ) (u : Unfinished) → unfinished_on g n ≡ u → RoomsOk (ended g n b u).next
  unfolding ended at
  end-rooms n b NoFrame e = h
  end-rooms n b (Frame mac octets) e =
      on-rooms (with_unfinished g n NoFrame) (rooms-aside g n NoFrame h) n (Receive mac octets b) (circuit_of g.common n) refl
      (fits-receive n mac octets b (rw e at (frames.fit n)).1)

  hand-rooms : (n : ℕ) (p : Piece) (x : Option Circuit) → RoomsOk (hand_on g n p x).next
  unfolding hand_on hand
  hand-rooms n p None = h
  hand-rooms n (Begin mac) (Some s) = rooms-aside g n _ h
  hand-rooms n (Chunk octets) (Some s) = chunk-rooms n (join (unfinished_on g n) octets)
  hand-rooms n (End b) (Some s) = end-rooms n b (unfinished_on g n) refl

-- ---- every call

step-rooms : (g : Gateway) (c : Call) → RoomsOk g → FramesFit g → Fits c → RoomsOk (step g c).next
unfolding step at
step-rooms g (At n l) h k f = on-rooms g h n l (circuit_of g.common n) refl f
step-rooms g (Over w) h k f = carry-rooms g h (judge g.common w) (judge-ok g.common w)
step-rooms g (Hand n p) h k f = hand-rooms g h k n p (circuit_of g.common n)

pub step-holds : (s : Settings) (g : Gateway) (c : Call) → Holds s g → Fits c → Holds s (step g c).next
step-holds s g c h f =
    record {
      common = common-moved s g.common (step g c).next.common (step-moves g c) h.common;
      rooms = step-rooms g c h.rooms h.frames f;
      frames = step-frames g c h.frames f;
    }
