-- The timers after a call are those that its event leaves: stage by stage, then of a whole run.
use Prim.Native.Nat.{ℕ}
use mathlib.Core.Path.{◌≡◌, refl, sym, ap, ◌∙◌}
use mathlib.Core.Bool.{Bool, false}
use mathlib.Core.List.{List, [], ◌∷◌}
use Rattle.basics.proofs.BoolLaws.{by-test}
use Rattle.basics.specs.Levels.{has_level}
use Rattle.basics.specs.declared.refusal.Refusal.{Refusal}
use Rattle.basics.specs.declared.refusal.Refusal.TheVariants.{ReplyRoom, WrongSource}
use Rattle.hello.specs.Hello.{hello_read}
use Rattle.hello.specs.declared.read.Hello.{Hello}
use lib.Dec.{eqb}
use Rattle.adjacency.specs.Record.{is_up, phase_of}
use Rattle.adjacency.specs.Step.{wrong_source, rises}
use Rattle.adjacency.specs.declared.record.Phase.{Phase}
use Rattle.adjacency.specs.declared.record.Phase.TheVariants.{Gone, Init, Up}
use Rattle.adjacency.specs.declared.record.Key.{Key}
use Rattle.room.specs.Table.{find}
use Rattle.model.specs.Numbers.{phase_no}
use Rattle.settings.specs.Mode.{is_running}
use Rattle.settings.specs.Settings.{enabled_levels}
use Rattle.settings.specs.declared.circuit.Circuit.{Circuit}
use Rattle.control.specs.Common.{Common, circuit_of}
use Rattle.chunks.specs.Chunks.{Unfinished, NoFrame, Frame, Joined, Refused as RefusedChunk, As, join}
use Rattle.model.specs.Gateway.{Gateway, Room, room_of, unfinished_on, with_unfinished}
use Rattle.model.specs.Receive.{Acted, refuse, said_of, t1_of, accepted, reacted, decided_in, checked, read_in, is_short, receive}
use Rattle.model.specs.Step.{Local, Receive, Release, Clear, CsnpComplete, LookUp, LinkMetric, NextHello, Global, Tick, DatabaseComplete, Waiting, Piece, Begin, Chunk, End, Call, At, Over, Hand, asks_level, csnp_complete, look_up, link_metric_of, next_hello, act, lift, on, at, none_of, is_back, tick_of, database_of, judge, carry, chunked, ended, hand, hand_on, step}
use Rattle.model.specs.Trace.{trace, left_by, after}
use Rattle.model.specs.TimerEvents.{TimerEvent, Hello as Heard, moved, moved_all, heard_from, offered_on, offered_over, offered_by, offered, where_done, event_of, events_of}
use Rattle.std.specs.Prelude.{Option, Some, None, Result, Ok, Err}
use Rattle.adjacency.specs.React.{Reaction}

-- 2 is the number of UP
up-number : (p : Phase) → eqb (phase_no p) (phase_no Up) ≡ is_up p
up-number Gone = refl
up-number Init = refl
up-number Up = refl

module _ (n : ℕ) (s : Circuit) (c : Common) (r : Room) where
  -- what a stage leaves, where the call is the event e if it is not refused, given that a record became UP or not
  abbrev Moves : (Bool → TimerEvent) → Acted → Type 0
  Moves e a = a.common.timers ≡ moved (where_done a.answer e) c.timers

  refuse-moves : (e : Bool → TimerEvent) (b : List ℕ) (x : Refusal) → Moves e (refuse b x c r)
  unfolding refuse moved where_done
  refuse-moves e b x = refl

  reacted-moves : (h : Hello) (k : Key) (b : List ℕ) (d : Reaction)
      → Moves (λ rose. Heard c.lengths c.clock (t1_of n s h) rose (said_of c s h)) (reacted n s h k b d c r)
  unfolding reacted accepted moved where_done rises
  reacted-moves h k b (Err x) = refuse-moves _ b x
  reacted-moves h k b (Ok (after, reply, line)) = rw (up-number (phase_of after), up-number (phase_of (find k r.slots))) refl

  read-moves : (mac : ℕ) (b : List ℕ) (d : Result Hello Refusal) → Moves (λ rose. heard_from n s c rose d) (read_in n s mac b d c r)
  unfolding read_in checked decided_in heard_from
  read-moves mac b (Err x) = refuse-moves _ b x
  read-moves mac b (Ok h) =
      by-test (wrong_source s.levels c.system h) (λ e. rw e (refuse-moves _ b WrongSource))
      (λ e. rw e (reacted-moves h _ b _))

  receive-moves : (mac : ℕ) (frame b : List ℕ) → Moves (λ rose. heard_from n s c rose (hello_read s.kind s.mac frame)) (receive n s mac frame b c r)
  unfolding receive
  receive-moves mac frame b =
      by-test (is_short b) (λ e. rw e (refuse-moves _ b ReplyRoom)) (λ e. rw e (read-moves mac b (hello_read s.kind s.mac frame)))

  act-moves : (l : Local) → Moves (λ rose. offered_on n c rose l (Some s)) (act n s l c r)
  unfolding act csnp_complete look_up link_metric_of next_hello refuse offered_on moved where_done
  act-moves (Receive mac frame b) = receive-moves mac frame b
  act-moves Release = refl
  act-moves Clear = refl
  act-moves (CsnpComplete level) =
      by-test (has_level s.levels level)
      (λ e. by-test (is_running c.timers.mode) (λ m. rw (e, m) refl) (λ m. rw (e, m) refl))
      (λ e. rw e refl)
  act-moves (LookUp k) = by-test (asks_level s.kind s.levels k.level) (λ e. rw e refl) (λ e. rw e refl)
  act-moves LinkMetric = refl
  act-moves (NextHello level) = by-test (has_level s.levels level) (λ e. rw e refl) (λ e. rw e refl)

on-moves : (g : Gateway) (n : ℕ) (l : Local) (q : Option Circuit)
    → (on g n l q).next.common.timers ≡ moved (where_done (on g n l q).answer (λ rose. offered_on n g.common rose l q)) g.common.timers
unfolding on lift moved where_done
on-moves g n l None = refl
on-moves g n l (Some s) = act-moves n s g.common (room_of g n) l

over-moves : (g : Gateway) (w : Global)
    → (carry g (judge g.common w)).next.common.timers
    ≡ moved (where_done (carry g (judge g.common w)).answer (λ rose. offered_over g.common w)) g.common.timers
unfolding judge tick_of database_of carry offered_over moved where_done
over-moves g (Tick clock) =
    by-test (none_of g.common.circuits) (λ e. rw e refl)
    (λ e. by-test (is_back clock g.common) (λ q. rw (e, q) refl) (λ q. rw (e, q) refl))
over-moves g (DatabaseComplete level) =
    by-test (has_level (enabled_levels g.common.circuits) level)
    (λ e. by-test (is_running g.common.timers.mode) (λ m. rw (e, m) refl) (λ m. rw (e, m) refl))
    (λ e. rw e refl)
over-moves g Waiting = refl

-- a frame in chunks: an end is a receive
chunk-moves : (g : Gateway) (n : ℕ) (e : Bool → TimerEvent) (j : Joined)
    → ((rose : Bool) → moved (e rose) g.common.timers ≡ g.common.timers)
    → (chunked g n j).next.common.timers ≡ moved (where_done (chunked g n j).answer e) g.common.timers
unfolding chunked moved where_done
chunk-moves g n e (RefusedChunk x) q = refl
chunk-moves g n e (As u) q = sym (q false)

end-moves : (g : Gateway) (n : ℕ) (b : List ℕ) (u : Unfinished)
    → (ended g n b u).next.common.timers
    ≡ moved (where_done (ended g n b u).answer (λ rose. offered_by n g.common rose (End b) u)) g.common.timers
unfolding ended at offered_by moved where_done
end-moves g n b NoFrame = refl
end-moves g n b (Frame mac octets) = on-moves (with_unfinished g n NoFrame) n (Receive mac octets b) (circuit_of g.common n)

hand-moves : (g : Gateway) (n : ℕ) (p : Piece) (q : Option Circuit)
    → (hand_on g n p q).next.common.timers
    ≡ moved (where_done (hand_on g n p q).answer (λ rose. offered_by n g.common rose p (unfinished_on g n))) g.common.timers
unfolding hand_on hand offered_by moved where_done
hand-moves g n p None = refl
hand-moves g n (Begin mac) (Some s) = refl
hand-moves g n (Chunk octets) (Some s) = chunk-moves g n _ (join (unfinished_on g n) octets) (λ rose. refl)
hand-moves g n (End b) (Some s) = end-moves g n b (unfinished_on g n)

pub step-timers : (g : Gateway) (c : Call) → (step g c).next.common.timers ≡ moved (event_of g c) g.common.timers
unfolding step at event_of offered
step-timers g (At n l) = on-moves g n l (circuit_of g.common n)
step-timers g (Over w) = over-moves g w
step-timers g (Hand n p) = hand-moves g n p (circuit_of g.common n)

pub after-timers : (g : Gateway) (cs : List Call) → (after g cs).common.timers ≡ moved_all (events_of (trace g cs)) g.common.timers
unfolding trace left_by moved_all
after-timers g [] = refl
after-timers g (c ∷ cs) = after-timers (step g c).next cs ∙ ap (moved_all (events_of (trace (step g c).next cs))) (step-timers g c)
