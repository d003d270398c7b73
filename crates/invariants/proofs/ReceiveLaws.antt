-- Receive, by its stages: the room stays in order, and a reply tells the time to the expiry of the record that stands afterwards.
use Prim.Native.Nat.{ℕ, ◌≤◌}
use native.Mathlib.Omega.{arith}
use mathlib.Core.Path.{◌≡◌, refl}
use mathlib.Core.Logic.{◌≢◌}
use mathlib.Core.Bool.{false}
use mathlib.Core.List.{List, [], ◌∷◌, ◌++◌, append_assoc}
use lib.ListN.{length, drop}
use lib.Dec.{ltb}
use borrow.Author.Tests.{eqb-false}
use Rattle.basics.specs.Octets.{big, octets_of}
use Rattle.basics.specs.declared.levels.Levels.{Levels}
use Rattle.basics.proofs.BoolLaws.{neither, by-test}
use Rattle.basics.proofs.OctetsLaws.{big-octets_of}
use Rattle.restart_tlv.specs.Restart.{ack_flag, restart_octets}
use Rattle.restart_tlv.specs.declared.writer.Ack.{Ack}
use Rattle.hello.specs.Hello.{kind_of, hello_read}
use Rattle.hello.specs.declared.read.Hello.{Hello}
use Rattle.hello.specs.declared.read.Link.{Link}
use Rattle.basics.specs.declared.kind.CircuitKind.{CircuitKind}
use Rattle.basics.specs.declared.kind.CircuitKind.TheVariants.{Lan, P2p}
use Rattle.basics.specs.declared.refusal.Refusal.{Refusal}
use Rattle.adjacency.specs.Step.{level_off, wrong_source}
use Rattle.adjacency.specs.Record.{expiry_of}
use Rattle.adjacency.specs.Marks.{time_in}
use Rattle.adjacency.specs.React.{react_of}
use Rattle.adjacency.specs.declared.marks.Line.{Line}
use Rattle.adjacency.specs.declared.record.Key.{Key}
use Rattle.adjacency.specs.declared.place.Slot.{Slot}
use Rattle.room.specs.Table.{find, crowded}
use Rattle.room.proofs.TableLaws.{find-put-same}
use Rattle.settings.specs.declared.circuit.Circuit.{Circuit}
use Rattle.control.specs.Common.{Common}
use Rattle.adjacency.specs.Keys.{key_on, level_in, key_in}
use Rattle.room.specs.Accept.{if_room, decided, kept, written}
use Rattle.model.specs.Answers.{Received, FrameAnswer}
use Rattle.model.specs.Gateway.{Room}
use Rattle.model.specs.Receive.{Acted, refuse, here_of, accepted, reacted, decided_in, checked, read_in, receive}
use Rattle.invariants.specs.Invariants.{Tells, Span, LevelAndMac, KeyFits, Octets}
use Rattle.invariants.proofs.RoomLaws.{each-find}
use Rattle.invariants.proofs.ReactLaws.{SpanIn, UnmarkedIn, Replies, Fair, refused as unfair, accepted as fair, react-fair}
use Rattle.invariants.proofs.HelloBounds.{Brief, brief-read}
use Rattle.hello.proofs.KindLaws.{Reads, refused as refused-read, accepted as brief}
use Rattle.invariants.proofs.CommonLaws.{level-passes}
use Rattle.invariants.proofs.GatewayLaws.{RoomOk, room-put}
use Rattle.std.specs.Prelude.{Option, Some, None, Result, Ok, Err}
use Rattle.adjacency.specs.React.{Reaction}
use Rattle.adjacency.specs.declared.record.State.{State}

-- ---- what a call on a circuit leaves

-- its room, in order
abbrev pub ActOk : Common → Circuit → Acted → Type 0
ActOk c s a = RoomOk c.system (Some s) c.clock a.room.slots

-- a reply's Remaining Time, of the record with the key k afterwards
pub record Said (clock : ℕ) (k : Key) (a : Acted) (time : ℕ) : Type 0 where
  pub octets : big 2 a.reply 3 ≡ time
  pub fits : time ≤ 65535
  pub tells : Tells (find k a.room.slots) clock time

pub record ReplyOk (clock : ℕ) (k : Key) (a : Acted) : Type 0 where
  pub said : (f : FrameAnswer) → a.answer ≡ Received f → f.reply ≢ 0 → Said clock k a f.time

-- the reply's octets 4 and 5
written-time : (system : ℕ) (ack : Ack) (time : ℕ) (b : List ℕ) → time ≤ 65535 → big 2 (written system (Some (ack, time)) b) 3 ≡ time
unfolding written restart_octets
written-time system ack time b h =
    rw (append_assoc (octets_of 2 time) (octets_of 6 system) (drop 11 b))
    (big-octets_of 2 time (omega arith) (211 ∷ 9 ∷ ack_flag ack ∷ []) (octets_of 6 system ++ drop 11 b))

-- refusals 8 and 9 are given, or the frame's effect fits the room
data Sound (clock : ℕ) (k : Key) (t : List Slot) : Reaction → Type 0 where
  refused : {x : Refusal} → Sound clock k t (Err x)
  sound : {after : Option State} {reply : Option (Ack × ℕ)} {line : Line} → crowded k t ≡ false → SpanIn clock after → UnmarkedIn after → Replies clock after reply
      → (after ≡ None → find k t ≡ None) → Sound clock k t (Ok (after, reply, line))

room-sound : (clock : ℕ) (k : Key) (t : List Slot) (a : Reaction) → Fair clock (find k t) a → Sound clock k t (if_room (crowded k t) a)
unfolding if_room
room-sound clock k t (Err x) unfair = refused
room-sound clock k t (Ok (after, reply, line)) (fair span bare told gone) =
    by-test (crowded k t) (λ e. rw e refused) (λ e. rw e (sound e span bare told gone))

-- ---- the key of a frame that refusal 7 lets pass

level-and-mac : (kind : CircuitKind) (l : Levels) (mac system : ℕ) (link : Link) → kind_of link ≡ kind → level_off l link ≡ false
    → LevelAndMac kind l (key_on kind (record { level = level_in link; system = system; mac = mac }))
unfolding key_on
level-and-mac Lan l mac system link e off = level-passes Lan l link e off
level-and-mac P2p l mac system link e off = (refl, refl)

key-system : (kind : CircuitKind) (k : Key) → (key_on kind k).system ≡ k.system
unfolding key_on
key-system Lan k = refl
key-system P2p k = refl

key_fits : (own : ℕ) (s : Circuit) (mac : ℕ) (h : Hello) → kind_of h.link ≡ s.kind → wrong_source s.levels own h ≡ false
    → KeyFits own s (key_in s.kind mac h)
unfolding wrong_source
key_fits own s mac h e pass =
    let z = neither (level_off s.levels h.link) _ pass in
    record {
      system = rw (key-system s.kind (record { level = level_in h.link; system = h.system; mac = mac })) (eqb-false h.system own z.1);
      rest = level-and-mac s.kind s.levels mac h.system h.link e z.0;
    }

module _ (c : Common) (s : Circuit) (r : Room) (hold : s.hold ≤ 65535) (ok : RoomOk c.system (Some s) c.clock r.slots) where
  -- ---- the record that stands before

  found-span : (k : Key) (a : Option State) → find k r.slots ≡ a → SpanIn c.clock a
  found-span k None e = tt
  found-span k (Some v) e = each-find (λ x. Span c.clock (expiry_of x)) k v r.slots ok.spans e

  decided-sound : (k : Key) (h : Hello) → h.hold ≤ 65535 → time_in h.restart ≤ 65535
      → Sound c.clock k r.slots (decided (here_of c s) k h r.slots)
  unfolding decided
  decided-sound k h p q =
      room-sound c.clock k r.slots (react_of (here_of c s) h (find k r.slots))
      (react-fair (here_of c s) h (find k r.slots) (record { hold = p; configured = hold; remaining = q }) (found-span k (find k r.slots) refl))

  -- ---- the stages

  kept-ok : (k : Key) (after : Option State) → KeyFits c.system s k → crowded k r.slots ≡ false → SpanIn c.clock after → UnmarkedIn after
      → RoomOk c.system (Some s) c.clock (kept k after r.slots)
  unfolding kept
  kept-ok k None key free span bare = ok
  kept-ok k (Some v) key free span bare = room-put c.system s c.clock r.slots k v ok free span bare key

  module _ (n : ℕ) (h : Hello) (k : Key) (key : KeyFits c.system s k) (b : List ℕ) where
    reacted-ok : (a : Reaction) → Sound c.clock k r.slots a → ActOk c s (reacted n s h k b a c r)
    unfolding reacted accepted refuse
    reacted-ok (Err x) refused = ok
    reacted-ok (Ok (after, reply, line)) (sound free span bare told gone) = kept-ok k after key free span bare

  module _ (n mac : ℕ) (b : List ℕ) where
    checked-ok : (h : Hello) → h.hold ≤ 65535 → time_in h.restart ≤ 65535 → kind_of h.link ≡ s.kind → ActOk c s (checked n s mac b h c r)
    unfolding checked decided_in refuse
    checked-ok h p q kind =
        let k = key_in s.kind mac h in
        by-test (wrong_source s.levels c.system h) (λ e. rw e ok)
        (λ e. rw e (reacted-ok n h k (key_fits c.system s mac h kind e) b (decided (here_of c s) k h r.slots) (decided-sound k h p q)))

    read_ok : (x : Result Hello Refusal) → Reads (Brief s.kind) x → ActOk c s (read_in n s mac b x c r)
    unfolding read_in refuse
    read_ok (Err x) refused-read = ok
    read_ok (Ok h) (brief (p, q, kind)) = checked-ok h p q kind

    pub receive_ok : (frame : List ℕ) → Octets frame → ActOk c s (receive n s mac frame b c r)
    unfolding receive refuse
    receive_ok frame f =
        by-test (ltb (length b) 11) (λ e. rw e ok)
        (λ e. rw e (read_ok (hello_read s.kind s.mac frame) (brief-read s.mac s.kind frame f)))

  -- ---- the reply

  refuse-reply : (k : Key) (b : List ℕ) (x : Refusal) → ReplyOk c.clock k (refuse b x c r)
  unfolding refuse
  refuse-reply k b x = record { said = λ f e q. absurd (let z : ◌≡◌ {A = ℕ} 0 1 = cc in omega arith) }

  -- what is found is what was put; where none was, none stood
  kept-found : (k : Key) (after : Option State) → crowded k r.slots ≡ false → (after ≡ None → find k r.slots ≡ None)
      → find k (kept k after r.slots) ≡ after
  unfolding kept
  kept-found k None free gone = gone refl
  kept-found k (Some v) free gone = find-put-same k v r.slots free

  module _ (n : ℕ) (h : Hello) (k : Key) (b : List ℕ) where
    accepted-reply : (after : Option State) (reply : Option (Ack × ℕ)) (line : Line) → Replies c.clock after reply
        → find k (kept k after r.slots) ≡ after → ReplyOk c.clock k (accepted n s h k b after reply line c r)
    unfolding accepted
    accepted-reply after None line told found = record { said = λ f e q. absurd (q (cc)) }
    accepted-reply after (Some (ack, time)) line told found =
        record {
          said = λ f e q.
              let w : f.time ≡ time = cc in
              rw w (record { octets = written-time h.system ack time b told.0; fits = told.0; tells = rw found told.1 });
        }

    reacted-reply : (a : Reaction) → Sound c.clock k r.slots a → ReplyOk c.clock k (reacted n s h k b a c r)
    unfolding reacted
    reacted-reply (Err x) refused = refuse-reply k b x
    reacted-reply (Ok (after, reply, line)) (sound free span bare told gone) =
        accepted-reply after reply line told (kept-found k after free gone)

  module _ (n mac : ℕ) (b : List ℕ) where
    checked-reply : (h : Hello) → h.hold ≤ 65535 → time_in h.restart ≤ 65535 → ReplyOk c.clock (key_in s.kind mac h) (checked n s mac b h c r)
    unfolding checked decided_in
    checked-reply h p q =
        let k = key_in s.kind mac h in
        by-test (wrong_source s.levels c.system h) (λ e. rw e (refuse-reply k b _))
        (λ e. rw e (reacted-reply n h k b (decided (here_of c s) k h r.slots) (decided-sound k h p q)))

    read-reply : (h : Hello) (x : Result Hello Refusal) → x ≡ Ok h → Reads (Brief s.kind) x → ReplyOk c.clock (key_in s.kind mac h) (read_in n s mac b x c r)
    unfolding read_in
    read-reply h (Err x) e refused-read = absurd (let z : ◌≡◌ {A = ℕ} 0 1 = cc in omega arith)
    read-reply h (Ok j) e (brief (p, q, kind)) = let z : j ≡ h = cc in rw (← z) (checked-reply j p q)

    pub receive-reply : (h : Hello) (frame : List ℕ) → Octets frame → hello_read s.kind s.mac frame ≡ Ok h
        → ReplyOk c.clock (key_in s.kind mac h) (receive n s mac frame b c r)
    unfolding receive
    receive-reply h frame f j =
        by-test (ltb (length b) 11) (λ e. rw e (refuse-reply (key_in s.kind mac h) b _))
        (λ e. rw e (read-reply h (hello_read s.kind s.mac frame) j (brief-read s.mac s.kind frame f)))
