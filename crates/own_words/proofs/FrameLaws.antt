-- The laws of receive's stages: the outcome of a stage is that of the next, or a refusal; and what the room's words and the control words
-- come to makes the gateway of the definition.
use Prim.Native.Nat.{ℕ, ◌+◌, ◌-◌, ◌<◌, ◌≤◌}
use native.Mathlib.Omega.{arith}
use mathlib.Core.Path.{◌≡◌, refl, ap, sym, ◌∙◌}
use mathlib.Core.Bool.{Bool, true, false}
use mathlib.Core.List.{List}
use lib.ListN.{length, set}
use borrow.Author.Tests.{lt-ltb, le-ltb}
use borrow.Rule.Slice.PartMut.{put_mid, put_same}
use Rattle.own_words.specs.Frame.{common_after, GivesOrders}
use Rattle.basics.specs.Mask.{circuits}
use Rattle.hello.specs.Hello.{hello_read}
use Rattle.hello.specs.declared.read.Hello.{Hello}
use Rattle.basics.specs.declared.refusal.Refusal.{Refusal}
use Rattle.basics.specs.declared.refusal.Refusal.TheVariants.{ReplyRoom, WrongSource}
use Rattle.adjacency.specs.Record.{phase_of}
use Rattle.adjacency.specs.Step.{wrong_source}
use Rattle.adjacency.specs.declared.duty.Rank.{Rank}
use Rattle.adjacency.specs.declared.marks.Line.{Line}
use Rattle.adjacency.specs.declared.record.Key.{Key}
use Rattle.adjacency.specs.declared.record.Phase.{Phase}
use Rattle.adjacency.specs.declared.step.Here.{Here}
use Rattle.slots.specs.Slots.{table_of, room_words}
use Rattle.adjacency.specs.declared.place.Slot.{Slot}
use Rattle.timer_parts.specs.declared.heard.Heard.{Heard}
use Rattle.timers.specs.declared.events.HeardOrders.{HeardOrders}
use Rattle.settings.specs.declared.circuit.Circuit.{Circuit}
use Rattle.control.specs.Common.{Common}
use Rattle.control.specs.Words.{circuit_at, common_of, control_words}
use Rattle.control.specs.Timing.{CommonHears}
use Rattle.adjacency.specs.Keys.{key_in}
use Rattle.room.specs.Accept.{decided, kept, csnps_in}
use Rattle.room.specs.Table.{find}
use Rattle.room.specs.declared.accept.Decision.{Decision}
use Rattle.room.specs.AcceptWords.{Did, Accepts}
use Rattle.model.specs.declared.answers.Change.{Change}
use Rattle.model.specs.declared.answers.Orders.{Orders}
use Rattle.model.specs.Answers.{Refused, Received, frame_answer, change_of}
use Rattle.model.specs.Gateway.{Gateway, Room, with_rooms, with_common, renew, room_of}
use Rattle.model.specs.Receive.{refuse, here_of, rank_of, has_risen, said_of, t1_of, orders_of, accepted, reacted, decided_in, checked, read_in, receive}
use Rattle.model.specs.Step.{Receive, act, lift}
use Rattle.own_words.specs.Words.{own_words, room_place, gateway_of, circuit_held, Meets}
use Rattle.basics.specs.Lists.{part}
use Rattle.own_words.proofs.WordLaws.{along, refuses, common-at, common-put, common-stays, room-put, room-same, room-of, renew-at}
use Rattle.std.specs.Prelude.{Option, Ok, Err}
use Rattle.adjacency.specs.React.{Reaction}
use Rattle.basics.specs.declared.levels.Levels.{Levels}
use Rattle.restart_tlv.specs.declared.writer.Ack.{Ack}
use Rattle.adjacency.specs.declared.record.State.{State}

pub hears-said : {i i' : ℕ} {rose rose' : Bool} {d d' : Heard} {ws u : List ℕ} {o : HeardOrders} → i ≡ i' → rose ≡ rose' → d ≡ d' → CommonHears i rose d ws u o
    → CommonHears i' rose' d' ws u o
hears-said p r e h = rw (← p, ← r, ← e) h

pub of-circuit : {n : ℕ} {s s' : Circuit} {h : Hello} {reply : Option (Ack × ℕ)} {line : Line} {change : Change} {ws u : List ℕ} {o : Orders} → s ≡ s'
    → GivesOrders n s h reply line change ws u o → GivesOrders n s' h reply line change ws u o
of-circuit e g = rw (← e) g

pub received_is : (g : Gateway) (n : ℕ) (s : Circuit) (mac : ℕ) (frame b : List ℕ) → lift g n (receive n s mac frame b) ≡ lift g n (act n s (Receive mac frame b))
unfolding lift act
received_is g n s mac frame b = refl

-- ---- refusals 2 to 7

module _ (g : Gateway) (n : ℕ) (s : Circuit) (mac : ℕ) (frame b : List ℕ) where
  pub small : length b < 11 → lift g n (refuse b ReplyRoom) ≡ lift g n (receive n s mac frame b)
  unfolding receive
  small h = rw (lt-ltb (length b) 11 h) refl

  module _ (room : 11 ≤ length b) where
    pub reads-bad : (x : Refusal) → hello_read s.kind s.mac frame ≡ Err x → lift g n (refuse b x) ≡ lift g n (receive n s mac frame b)
    unfolding receive read_in
    reads-bad x e = rw (le-ltb (length b) 11 room, e) refl

    pub reads-good : (h : Hello) → hello_read s.kind s.mac frame ≡ Ok h → lift g n (checked n s mac b h) ≡ lift g n (receive n s mac frame b)
    unfolding receive read_in
    reads-good h e = rw (le-ltb (length b) 11 room, e) refl

module _ (ws : List ℕ) (n : ℕ) (s : Circuit) (mac : ℕ) (h : Hello) (b : List ℕ) (own : ℕ) (o : own ≡ (common_of (part 0 control_words ws)).system) where
  pub source-wrong : wrong_source s.levels own h ≡ true → lift (gateway_of ws) n (refuse b WrongSource) ≡ lift (gateway_of ws) n (checked n s mac b h)
  unfolding lift checked gateway_of
  source-wrong e = rw (← o, e) refl

  pub source-right : (m : ℕ) → m ≡ mac → wrong_source s.levels own h ≡ false
      → lift (gateway_of ws) n (decided_in n s m b h) ≡ lift (gateway_of ws) n (checked n s mac b h)
  unfolding lift checked gateway_of
  source-right m q e = rw (q, ← o, e) refl

-- ---- refusals 8 and 9, and the frame's effect

module _ (ws : List ℕ) (n : ℕ) (s : Circuit) (mac : ℕ) (h : Hello) (b : List ℕ) (len : length ws ≡ own_words) (lo : 0 < n) (hi : n ≤ circuits) where
  abbrev a : ℕ
  a = room_place (n - 1)

  abbrev g : Gateway
  g = gateway_of ws

  abbrev k : Key
  k = key_in s.kind mac h

  refused-is : (x : Refusal) → Err x ≡ decided (here_of g.common s) k h (room_of g n).slots → lift g n (refuse b x) ≡ lift g n (decided_in n s mac b h)
  unfolding lift decided_in reacted
  refused-is x e = rw (← e) refl

  accepted-is : (after : Option State) (reply : Option (Ack × ℕ)) (line : Line)
      → Ok (after, reply, line) ≡ decided (here_of g.common s) k h (room_of g n).slots
      → lift g n (accepted n s h k b after reply line) ≡ lift g n (decided_in n s mac b h)
  unfolding lift decided_in reacted
  accepted-is after reply line e = rw (← e) refl

  module _ (here : Here) (key : Key) (he : here ≡ here_of (common_of (part 0 control_words ws)) s) (ke : key ≡ k) where
    -- the room's decision is the gateway's
    decided-at : (r : Reaction) → r ≡ decided here key h (table_of (part a (a + room_words - a) ws)) → r ≡ decided (here_of g.common s) k h (room_of g n).slots
    decided-at r e =
        e ∙ ap (λ (x : Here). decided x key h (table_of (part a (a + room_words - a) ws))) (he ∙ ap (λ (c : Common). here_of c s) (common-at ws))
        ∙ ap (λ (x : Key). decided (here_of g.common s) x h (table_of (part a (a + room_words - a) ws))) ke
        ∙ ap (decided (here_of g.common s) k h) (room-of ws n lo hi)

    pub left : (x : Refusal) (t b' : List ℕ) (d : Decision) → d.reaction ≡ Err x → Accepts here key h (part a (a + room_words - a) ws) b t b' d
        → Meets (Refused x) (lift g n (decided_in n s mac b h)) ws (put_mid a (a + room_words - a) ws t) b'
    left x t b' d e l =
        let did : Did key h.system (part a (a + room_words - a) ws) b t b' (Err x) = rw e at l.did in
        let w : put_mid a (a + room_words - a) ws t ≡ ws = ap (put_mid a (a + room_words - a) ws) did.0 ∙ put_same a (a + room_words - a) ws in
        rw (w, did.1) (along (refused-is x (decided-at (Err x) (sym e ∙ l.is))) (refuses ws n b x))

    module _ (t b' : List ℕ) (after : Option State) (reply : Option (Ack × ℕ)) (line : Line) (lt : length t ≡ a + room_words - a) where
      abbrev ws1 : List ℕ
      ws1 = put_mid a (a + room_words - a) ws t

      abbrev room : Room
      room = record { slots = kept k after (room_of g n).slots }

      put1 : gateway_of ws1 ≡ with_rooms g (set g.rooms (n - 1) (record { slots = table_of t }))
      put1 = room-put ws t len (n - 1) (omega arith) lt

      kept1 : table_of t ≡ kept key after (table_of (part a (a + room_words - a) ws)) → table_of t ≡ kept k after (room_of g n).slots
      kept1 e =
          e ∙ ap (λ (x : Key). kept x after (table_of (part a (a + room_words - a) ws))) ke ∙ ap (kept k after) (room-of ws n lo hi)

      -- what became of the record with the key, of the room that stood
      changed-at : (before : Phase) → before ≡ phase_of (find key (table_of (part a (a + room_words - a) ws)))
          → change_of key before after ≡ change_of k (phase_of (find k (room_of g n).slots)) after
      changed-at before e =
          ap (λ (x : Phase). change_of key x after) (e ∙ ap (λ (x : List Slot). phase_of (find key x)) (room-of ws n lo hi))
          ∙ ap (λ (x : Key). change_of x (phase_of (find x (room_of g n).slots)) after) ke

      pub taken : (ws2 : List ℕ) (o : Orders) (d : Decision) → d.reaction ≡ Ok (after, reply, line)
          → Accepts here key h (part a (a + room_words - a) ws) b t b' d → (change : Change) → change ≡ change_of key d.before after
          → GivesOrders n s h reply line change ws1 ws2 o → Meets (Received (frame_answer o)) (lift g n (decided_in n s mac b h)) ws ws2 b'
      unfolding lift accepted
      taken ws2 o d de l change ce y =
          let did : Did key h.system (part a (a + room_words - a) ws) b t b' (Ok (after, reply, line)) = rw de at l.did in
          let e = kept1 did.0 in
          let cs = ce ∙ changed-at d.before l.before in
          let own : room_of (gateway_of ws1) n ≡ room =
          ap (λ (x : List Slot). record { slots = x }) (sym (room-of ws1 n lo hi) ∙ ap table_of (room-same ws t len (n - 1) (omega arith) lt) ∙ e) in
          let same : gateway_of ws1 ≡ with_rooms g (renew g.rooms n room) =
          put1 ∙ ap (λ (x : List Slot). with_rooms g (set g.rooms (n - 1) (record { slots = x }))) e ∙ ap (with_rooms g) (sym (renew-at g.rooms n room lo)) in
          let common : (gateway_of ws1).common ≡ g.common = ap (λ (x : Gateway). x.common) same in
          along (accepted-is after reply line (decided-at (Ok (after, reply, line)) (sym de ∙ l.is)))
          (record {
            answer = ap (λ (x : Orders). Received (frame_answer x)) (y.orders ∙ (λ i. orders_of n s h reply line (cs i) (common i) (own i)));
            reply = did.1;
            next = y.next ∙ (λ i. with_common (same i) (common_after n s h (cs i) (same i).common));
            kept = λ x z. absurd (let y : ◌≡◌ {A = ℕ} 0 1 = cc in omega arith);
          })

-- ---- a room put back leaves the circuit's settings, and what the frame says

module _ (ws : List ℕ) (n : ℕ) (s : Circuit) (h : Hello) (t : List ℕ) (len : length ws ≡ own_words) (lo : 0 < n) (hi : n ≤ circuits)
    (lt : length t ≡ room_place (n - 1) + room_words - room_place (n - 1)) (held : s ≡ circuit_held ws n) where
  abbrev back : List ℕ
  back = put_mid (room_place (n - 1)) (room_place (n - 1) + room_words - room_place (n - 1)) ws t

  stays : part 0 control_words ws ≡ part 0 control_words back
  stays = sym (common-stays ws t len (n - 1) (omega arith) lt)

  pub held_back : s ≡ circuit_held back n
  held_back = held ∙ ap (λ (l : List ℕ). circuit_at l (n - 1)) stays

  pub said-back : (said : Heard) → said ≡ said_of (common_of (part 0 control_words ws)) s h → said ≡ said_of (gateway_of back).common (circuit_held back n) h
  unfolding gateway_of
  said-back said e = e ∙ (λ i. said_of (common_of (stays i)) (held_back i) h)

-- ---- the orders of an accepted frame

module _ (ws : List ℕ) (n : ℕ) (s : Circuit) (h : Hello) (reply : Option (Ack × ℕ)) (line : Line) (change : Change) (len : length ws ≡ own_words) (lo : 0 < n) (hi : n ≤ circuits) where
  abbrev at : ℕ
  at = room_place (n - 1)

  pub gives : (rank : Rank) (cs : Option Levels) (timed : HeardOrders) (u : List ℕ) → length u ≡ control_words → rank ≡ rank_of s h
      → cs ≡ csnps_in rank line s.levels h.link (table_of (part at (at + room_words - at) ws))
      → CommonHears (t1_of n s h) (has_risen change) (said_of (common_of (part 0 control_words ws)) s h) (part 0 control_words ws) u timed
      → GivesOrders n s h reply line change ws (put_mid 0 control_words ws u)
      (record { reply = reply; csnps = cs; outcome = timed.outcome; freed = timed.freed; hello = timed.hello; change = change })
  unfolding gateway_of
  gives rank cs timed u lu re ce hs =
      let c : cs ≡ csnps_in (rank_of s h) line s.levels h.link (room_of (gateway_of ws) n).slots =
      ce ∙ ap (λ (x : Rank). csnps_in x line s.levels h.link (table_of (part at (at + room_words - at) ws))) re
      ∙ ap (csnps_in (rank_of s h) line s.levels h.link) (room-of ws n lo hi) in
      record {
        orders = λ i.
            let o : HeardOrders = hs.orders i in
            record { reply = reply; csnps = c i; outcome = o.outcome; freed = o.freed; hello = o.hello; change = change };
        next = common-put ws u len lu ∙ ap (with_common (gateway_of ws)) hs.common;
      }
