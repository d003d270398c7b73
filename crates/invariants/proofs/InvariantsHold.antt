-- The invariants follow from what holds of the gateway after any list of calls.
use Prim.Native.Nat.{ℕ, zero, suc, ◌≤◌, ◌<◌}
use native.Mathlib.Omega.{arith}
use mathlib.Core.Path.{◌≡◌, refl}
use mathlib.Core.Logic.{◌≢◌}
use mathlib.Core.Bool.{Bool, true}
use mathlib.Core.List.{List, [], ◌∷◌}
use lib.ListN.{length}
use lib.Dec.{ltb}
use borrow.Author.Tests.{leb-false, le-ltb}
use Rattle.basics.proofs.BoolLaws.{by-test}
use Rattle.hello.specs.Hello.{hello_read}
use Rattle.basics.specs.declared.kind.CircuitKind.{CircuitKind}
use Rattle.basics.specs.declared.kind.CircuitKind.TheVariants.{Lan, P2p}
use Rattle.hello.specs.declared.read.Hello.{Hello}
use Rattle.adjacency.specs.Record.{expiry_of}
use Rattle.adjacency.specs.declared.record.Record.{Record}
use Rattle.adjacency.specs.Place.{expired_by}
use Rattle.adjacency.specs.declared.place.Slot.{Slot}
use Rattle.room.specs.Table.{expired}
use Rattle.settings.specs.declared.circuit.Circuit.{Circuit}
use Rattle.settings.specs.declared.setup.Settings.{Settings}
use Rattle.control.specs.Common.{Common, circuit_of}
use Rattle.adjacency.specs.Keys.{key_in}
use Rattle.timers.specs.Hellos.{Hellos}
use Rattle.model.specs.Answers.{Received, Ticked, FrameAnswer, TimersAnswer}
use Rattle.chunks.specs.Chunks.{NoFrame, Frame}
use Rattle.model.specs.Gateway.{Gateway, room_of, record_at, unfinished_on, with_unfinished}
use Rattle.model.specs.Receive.{receive}
use Rattle.model.specs.Step.{Call, At, Over, Hand, Receive, Tick, End, act, lift, on, at, none_of, tick_of, judge, carry, ended, hand, hand_on, step}
use Rattle.model.specs.Trace.{trace, left_by, after}
use Rattle.invariants.specs.Invariants.{Octets, AllFit, none, more, Gives, whole, ended as gives-ended, Each, records, room_for, TrueTime, TrueReplies, AboveClock, TickSweeps, Bounded, KeysFit, NearExpiries, BareUnmarked, Invariant, Invariants}
use Rattle.invariants.proofs.RoomLaws.{each-sweep, no-records-each, no-records-records, open_places, records-places}
use Rattle.invariants.proofs.GatewayLaws.{Size, places_of, none-of, RoomOk, RoomsOk, renew-same, swept_at, Holds, setup-holds}
use Rattle.invariants.proofs.CommonLaws.{act-keeps, step-moves}
use Rattle.invariants.proofs.ReceiveLaws.{receive-reply}
use Rattle.invariants.proofs.StepLaws.{rooms-aside, step-holds}
use Rattle.std.specs.Prelude.{Some, None, Ok}

-- ---- rooms

known-records : (s : Circuit) (t : List Slot) → Size (Some s) t → records t ≤ room_for s.kind
known-records s t (places_of e) = omega (arith, records-places t)

unknown-records : (t : List Slot) → Size None t → records t ≡ 0
unknown-records t (none-of b) = no-records-records t b

unknown-each : {P : Record → Type 0} (t : List Slot) → Size None t → Each P t
unknown-each t (none-of b) = no-records-each t b

room-for : (kind : CircuitKind) → 0 < room_for kind
room-for Lan = omega arith
room-for P2p = omega arith

known-places : (s : Circuit) (t : List Slot) → Size (Some s) t → 0 < open_places t
known-places s t (places_of e) = rw e (room-for s.kind)

none-length : (l : List Circuit) → none_of l ≡ true → length l ≡ 0
unfolding none_of
none-length [] e = refl
none-length (x ∷ l) e = cc

none-known : (c : Common) → none_of c.circuits ≡ true → (n : ℕ) → circuit_of c n ≡ None
unfolding circuit_of
none-known c e zero = refl
none-known c e (suc i) = rw (le-ltb i (length c.circuits) (omega (arith, none-length c.circuits e))) refl

module _ (g : Gateway) (h : RoomsOk g) where
  bounded : Bounded g
  bounded =
      record {
        within = λ n s e. known-records s (room_of g n).slots (rw e at (h.rooms n).size);
        past = λ n e. unknown-records (room_of g n).slots (rw e at (h.rooms n).size);
        single = λ n k. (h.rooms n).single k;
      }

  keys-fit : KeysFit g
  keys-fit = record { fit = λ n s e. rw e at (h.rooms n).keys }

  near-expiries : NearExpiries g
  near-expiries = record { near = λ n. (h.rooms n).spans }

  bare-unmarked : BareUnmarked g
  bare-unmarked = record { unmarked = λ n. (h.rooms n).bare }

  -- ---- ticks

  left-above : (clock n : ℕ) → Each (λ r. clock < expiry_of r.state) (expired clock (room_of g n).slots)
  left-above clock n = each-sweep (expired_by clock) (λ r e q. leb-false (expiry_of r.state) clock e) (room_of g n).slots (h.rooms n).spans

  tick-above : (clock : ℕ) (lost : List Bool) (hellos : Hellos) (o : TimersAnswer) → (step g (Over (Tick clock))).answer ≡ Ticked lost hellos o
      → AboveClock (step g (Over (Tick clock))).next
  unfolding step judge tick_of carry
  tick-above clock lost hellos o e =
      by-test (none_of g.common.circuits)
      (λ a. rw a (record { above = λ n. unknown-each (room_of g n).slots (rw (none-known g.common a n) at (h.rooms n).size) }))
      (λ a. by-test (ltb clock g.common.clock)
      (λ b. absurd (let z : ◌≡◌ {A = ℕ} 0 1 = cc in omega arith))
      (λ b. rw (a, b) (record { above = λ n. rw (swept_at clock g.rooms n) (left-above clock n) })))

  tick-sweeps : TickSweeps g
  tick-sweeps = record { sweeps = tick-above }

  -- ---- replies

  module _ (n mac : ℕ) (frame buffer : List ℕ) (s : Circuit) (j : Hello) where
    reply-true : (f : FrameAnswer) → Octets frame
        → circuit_of g.common n ≡ Some s → hello_read s.kind s.mac frame ≡ Ok j
        → (step g (At n (Receive mac frame buffer))).answer ≡ Received f → f.reply ≢ 0
        → TrueTime (step g (At n (Receive mac frame buffer))) n (key_in s.kind mac j) f.time
    unfolding step at on lift act record_at
    reply-true told f e r a q =
        let ok : RoomOk g.common.system (Some s) g.common.clock (room_of g n).slots = rw e at (h.rooms n) in
        let done = act-keeps n s g.common (room_of g n) e (Receive mac frame buffer) in
        let w = (receive-reply g.common s (room_of g n) (h.hold n s e) ok n mac buffer j frame f r).said told (rw e at a) q in
        rw e
        (record {
          octets = w.octets;
          fits = w.fits;
          tells =
              rw (renew-same g.rooms n (receive n s mac frame buffer g.common (room_of g n)).room (known-places s (room_of g n).slots ok.size), done.clock)
              w.tells;
        })

-- an end on a circuit that is there, with its frame begun
end_is : (g : Gateway) (n mac : ℕ) (frame b : List ℕ) (s : Circuit) → circuit_of g.common n ≡ Some s → unfinished_on g n ≡ Frame mac frame
    → step g (Hand n (End b)) ≡ step (with_unfinished g n NoFrame) (At n (Receive mac frame b))
unfolding step hand_on hand ended
end_is g n mac frame b s e u = rw (e, u) refl

reply-time : (g : Gateway) → RoomsOk g → (c : Call) (n mac : ℕ) (frame : List ℕ) (s : Circuit) (h : Hello) (f : FrameAnswer) → Gives g c n mac frame → Octets frame
    → circuit_of g.common n ≡ Some s → hello_read s.kind s.mac frame ≡ Ok h
    → (step g c).answer ≡ Received f → f.reply ≢ 0 → TrueTime (step g c) n (key_in s.kind mac h) f.time
reply-time g ok c n mac frame s h f (whole {buffer = b}) o e r a q = reply-true g ok n mac frame b s h f o e r a q
reply-time g ok c n mac frame s h f (gives-ended {buffer = b} u) o e r a q =
    let is = end_is g n mac frame b s e u in
    rw is (reply-true (with_unfinished g n NoFrame) (rooms-aside g n NoFrame ok) n mac frame b s h f o e r (rw is at a) q)

true-replies : (g : Gateway) → RoomsOk g → TrueReplies g
true-replies g ok = record { time = reply-time g ok }

holds-invariant : (s : Settings) (g : Gateway) → Holds s g → Invariant s g
holds-invariant s g h =
    record {
      replies = true-replies g h.rooms;
      ticks = tick-sweeps g h.rooms;
      rooms = bounded g h.rooms;
      keys = keys-fit g h.rooms;
      expiries = near-expiries g h.rooms;
      bare = bare-unmarked g h.rooms;
      frames = h.frames;
      settings = h.common.settings;
      quiet = h.common.quiet;
      restarts = h.common.restarts;
      no-t3 = h.common.no-t3;
      timers = h.common.timers;
      onward = λ c. (step-moves g c).onward;
    }

-- ---- any list of calls

after_holds : (s : Settings) (g : Gateway) (cs : List Call) → Holds s g → AllFit cs → Holds s (after g cs)
unfolding trace left_by
after_holds s g [] h none = h
after_holds s g (c ∷ cs) h (more f fs) = after_holds s (step g c).next cs (step-holds s g c h f) fs

pub invariants : Invariants
invariants s g hellos e cs fs = holds-invariant s (after g cs) (after_holds s g cs (setup-holds s g hellos e) fs)
