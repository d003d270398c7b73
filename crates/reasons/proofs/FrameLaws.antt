-- A receive is refused, with all as it was, or the frame is taken: what then held before the call, and what the call answers and leaves. For StandingLaws
-- and WhyLaws, and for the code's proofs.
use Prim.Native.Nat.{ℕ, zero, suc}
use native.Mathlib.Omega.{arith}
use mathlib.Core.Path.{◌≡◌, refl, sym, ap, ◌∙◌}
use mathlib.Core.Bool.{true, false, true≢false}
use mathlib.Core.List.{List, [], ◌∷◌}
use Rattle.basics.specs.declared.refusal.Refusal.{Refusal}
use Rattle.basics.specs.declared.refusal.Refusal.TheVariants.{ReplyRoom, WrongSource, NoRoom}
use Rattle.basics.proofs.BoolLaws.{by-test}
use Rattle.hello.specs.Hello.{hello_read}
use Rattle.hello.specs.declared.read.Hello.{Hello}
use Rattle.adjacency.specs.Keys.{key_in}
use Rattle.adjacency.specs.React.{line_in, react_of}
use Rattle.adjacency.specs.Record.{phase_of}
use Rattle.adjacency.specs.Step.{wrong_source}
use Rattle.adjacency.specs.declared.marks.Line.{Line}
use Rattle.adjacency.specs.declared.record.Key.{Key}
use Rattle.room.specs.Accept.{if_room, decided, kept, written, csnps_in}
use Rattle.room.specs.Table.{find, has, full, crowded}
use Rattle.settings.specs.declared.circuit.Circuit.{Circuit}
use Rattle.control.specs.Common.{Common, circuit_of}
use Rattle.model.specs.Numbers.{is_ordered}
use Rattle.model.specs.Answers.{Answer, Refused as RefusedAnswer, Received, FrameAnswer, frame_answer, change_of}
use Rattle.model.specs.Gateway.{Room, Gateway, with_rooms, with_common, with_slots, numbered, renew, no_room, room_of, record_at}
use Rattle.model.specs.Receive.{Acted, refuse, here_of, rank_of, orders_of, accepted, reacted, decided_in, checked, read_in, is_short, receive}
use Rattle.model.specs.Step.{Receive, Call, At, Outcome, act, lift, on, at, step}
use Rattle.reasons.proofs.LineLaws.{line-fits}
use Rattle.std.specs.Prelude.{Option, Some, None, Result, Ok, Err}
use Rattle.adjacency.specs.React.{Reaction}
use Rattle.restart_tlv.specs.declared.writer.Ack.{Ack}
use Rattle.adjacency.specs.declared.record.State.{State}

-- ---- a receive on a circuit that is there

module _ (n : ℕ) (s : Circuit) (mac : ℕ) (frame b : List ℕ) (c : Common) (r : Room) where
  -- what holds where the frame is taken
  pub record Taken : Type 0 where
    pub hello : Hello
    pub reads : hello_read s.kind s.mac frame ≡ Ok hello
    pub source : wrong_source s.levels c.system hello ≡ false
    pub after : Option State
    pub reply : Option (Ack × ℕ)
    pub line : Line
    pub reacts : react_of (here_of c s) hello (find (key_in s.kind mac hello) r.slots) ≡ Ok (after, reply, line)
    pub free : crowded (key_in s.kind mac hello) r.slots ≡ false
    pub acts : receive n s mac frame b c r ≡ accepted n s hello (key_in s.kind mac hello) b after reply line c r

  pub data Comes : Type 0 where
    turned : (x : Refusal) → receive n s mac frame b c r ≡ refuse b x c r → Comes
    taken : Taken → Comes

  react-comes : (h : Hello) → hello_read s.kind s.mac frame ≡ Ok h → wrong_source s.levels c.system h ≡ false → (a : Reaction)
      → react_of (here_of c s) h (find (key_in s.kind mac h) r.slots) ≡ a
      → receive n s mac frame b c r ≡ reacted n s h (key_in s.kind mac h) b (if_room (crowded (key_in s.kind mac h) r.slots) a) c r → Comes
  unfolding if_room reacted
  react-comes h d w (Err x) e p = turned x p
  react-comes h d w (Ok (after, reply, line)) e p =
      by-test (crowded (key_in s.kind mac h) r.slots) (λ f. turned NoRoom (rw f at p))
      (λ f.
      taken (record { hello = h; reads = d; source = w; after = after; reply = reply; line = line; reacts = e; free = f; acts = rw f at p }))

  read-comes : (d : Result Hello Refusal) → hello_read s.kind s.mac frame ≡ d → receive n s mac frame b c r ≡ read_in n s mac b d c r → Comes
  unfolding read_in checked decided_in decided
  read-comes (Err x) d p = turned x p
  read-comes (Ok h) d p =
      by-test (wrong_source s.levels c.system h) (λ w. turned WrongSource (rw w at p)) (λ w. react-comes h d w _ refl (rw w at p))

  pub receive-comes : Comes
  unfolding receive
  receive-comes = by-test (is_short b) (λ t. turned ReplyRoom (rw t refl)) (λ t. read-comes _ refl (rw t refl))

-- ---- the room of a number

-- renewed where there is one of that number
pub renew-there : {A : Type 0} (l : List A) (n : ℕ) (d v : A) → (numbered l n d ≡ d → ⊥) → numbered (renew l n v) n d ≡ v
unfolding numbered renew
renew-there l zero d v h = absurd (h refl)
renew-there [] (suc i) d v h = absurd (h refl)
renew-there (x ∷ l) (suc zero) d v h = refl
renew-there (x ∷ l) (suc (suc i)) d v h = renew-there l (suc i) d v h

-- where there is none, no frame is taken: the room counts as full
no-room-crowded : (k : Key) → crowded k no_room.slots ≡ true
unfolding crowded full has
no-room-crowded k = refl

-- ---- the laws

-- the room that a frame leaves
abbrev pub room_left : Gateway → ℕ → Key → Option State → Room
room_left g n k after = with_slots (room_of g n) (kept k after (room_of g n).slots)

-- circuit n took the frame, and answered f
pub record Took (g : Gateway) (n mac : ℕ) (frame b : List ℕ) (f : FrameAnswer) : Type 0 where
  pub settings : Circuit
  pub known : circuit_of g.common n ≡ Some settings
  pub hello : Hello
  pub reads : hello_read settings.kind settings.mac frame ≡ Ok hello
  pub source : wrong_source settings.levels g.common.system hello ≡ false
  pub after : Option State
  pub reply : Option (Ack × ℕ)
  pub line : Line
  pub reacts : react_of (here_of g.common settings) hello (find (key_in settings.kind mac hello) (room_of g n).slots) ≡ Ok (after, reply, line)
  pub fits : line ≡ line_in (here_of g.common settings) hello (record_at g n (key_in settings.kind mac hello))
  pub free : crowded (key_in settings.kind mac hello) (room_of g n).slots ≡ false
  pub answer : f ≡ frame_answer
      (orders_of n settings hello reply line
      (change_of (key_in settings.kind mac hello) (phase_of (find (key_in settings.kind mac hello) (room_of g n).slots)) after)
      g.common (room_left g n (key_in settings.kind mac hello) after))
  pub writes : (step g (At n (Receive mac frame b))).reply ≡ written hello.system reply b
  pub next : room_of (step g (At n (Receive mac frame b))).next n ≡ room_left g n (key_in settings.kind mac hello) after

-- a receive answers a refusal or an accepted frame
pub data Said : Answer → Type 0 where
  refusing : {x : Refusal} → Said (RefusedAnswer x)
  receiving : {f : FrameAnswer} → Said (Received f)

abbrev outcome_of : Gateway → ℕ → Acted → Outcome
outcome_of g n a = record { answer = a.answer; reply = a.reply; next = with_rooms (with_common g a.common) (renew g.rooms n a.room) }

received-same : (f h : FrameAnswer) → Received f ≡ Received h → f ≡ h
received-same f h e = cc

module _ (g : Gateway) (n mac : ℕ) (frame b : List ℕ) where
  abbrev call : Call
  call = At n (Receive mac frame b)

  taken-took : (f : FrameAnswer) (s : Circuit) → circuit_of g.common n ≡ Some s → (t : Taken n s mac frame b g.common (room_of g n))
      → step g call ≡ outcome_of g n (receive n s mac frame b g.common (room_of g n)) → (step g call).answer ≡ Received f → Took g n mac frame b f
  unfolding accepted record_at
  taken-took f s k t p e =
      let o = p ∙ ap (outcome_of g n) t.acts in
      let key = key_in s.kind mac t.hello in
      record {
        settings = s;
        known = k;
        hello = t.hello;
        reads = t.reads;
        source = t.source;
        after = t.after;
        reply = t.reply;
        line = t.line;
        reacts = t.reacts;
        fits = line-fits _ _ _ _ _ _ t.reacts;
        free = t.free;
        answer = received-same _ _ (sym e ∙ ap (λ (x : Outcome). x.answer) o);
        writes = ap (λ (x : Outcome). x.reply) o;
        next =
            ap (λ (x : Outcome). room_of x.next n) o
            ∙ renew-there g.rooms n no_room _
            (λ q. true≢false (sym (no-room-crowded key) ∙ sym (ap (λ (r : Room). crowded key r.slots) q) ∙ t.free));
      }

  on-took : (f : FrameAnswer) (q : Option Circuit) → circuit_of g.common n ≡ q → step g call ≡ on g n (Receive mac frame b) q
      → (step g call).answer ≡ Received f → Took g n mac frame b f
  unfolding on lift act refuse
  on-took f None k p e = absurd (let z : ◌≡◌ {A = ℕ} 0 1 = cc in omega arith)
  on-took f (Some s) k p e = go (receive-comes n s mac frame b g.common (room_of g n))
    where
      go : Comes n s mac frame b g.common (room_of g n) → Took g n mac frame b f
      go (turned x t) = absurd (let w = ap (λ (o : Outcome). o.answer) (p ∙ ap (outcome_of g n) t) in let z : ◌≡◌ {A = ℕ} 0 1 = cc in omega arith)
      go (taken t) = taken-took f s k t p e

  pub took : (f : FrameAnswer) → (step g call).answer ≡ Received f → Took g n mac frame b f
  unfolding step at
  took f e = on-took f (circuit_of g.common n) refl refl e

  -- line 1's order, of the room as the frame left it
  pub took-ordered : (f : FrameAnswer) (t : Took g n mac frame b f)
      → f.ordered
      ≡ is_ordered (csnps_in (rank_of t.settings t.hello) t.line t.settings.levels t.hello.link (room_of (step g call).next n).slots)
  took-ordered f t = rw t.next (ap (λ (x : FrameAnswer). x.ordered) t.answer)

  on-said : (q : Option Circuit) → Said (on g n (Receive mac frame b) q).answer
  unfolding on lift act refuse accepted
  on-said None = refusing
  on-said (Some s) = go (receive-comes n s mac frame b g.common (room_of g n))
    where
      go : Comes n s mac frame b g.common (room_of g n) → Said (receive n s mac frame b g.common (room_of g n)).answer
      go (turned x t) = rw t refusing
      go (taken t) = rw t.acts receiving

  pub receive-said : Said (step g call).answer
  unfolding step at
  receive-said = on-said (circuit_of g.common n)
