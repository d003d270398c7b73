-- Demand 1, proved of the step: stage by stage, an answer that is a refusal comes with all as it was.
use Prim.Native.Nat.{ℕ}
use native.Mathlib.Omega.{arith}
use mathlib.Core.Path.{◌≡◌, refl, ap, ◌∙◌}
use mathlib.Core.Bool.{Bool, true, false, cond}
use mathlib.Core.List.{List, []}
use Rattle.basics.proofs.BoolLaws.{by-test}
use Rattle.hello.specs.Hello.{hello_read}
use Rattle.hello.specs.declared.read.Hello.{Hello}
use Rattle.basics.specs.declared.refusal.Refusal.{Refusal}
use Rattle.basics.specs.declared.refusal.Refusal.TheVariants.{ReplyRoom, WrongSource, NoCircuit, ClockBack, NotRestarting, NotBegun}
use Rattle.adjacency.specs.Step.{wrong_source}
use Rattle.basics.specs.Levels.{has_level}
use Rattle.adjacency.specs.declared.record.Key.{Key}
use Rattle.settings.specs.Mode.{is_running}
use Rattle.settings.specs.Settings.{enabled_levels}
use Rattle.settings.specs.declared.circuit.Circuit.{Circuit}
use Rattle.control.specs.Common.{Common, circuit_of}
use Rattle.adjacency.specs.Keys.{key_in}
use Rattle.room.specs.Accept.{decided}
use Rattle.timers.specs.Hellos.{Hellos}
use Rattle.model.specs.Answers.{Refused, Told, Fact, TimersAnswer}
use Rattle.chunks.specs.Chunks.{Unfinished, NoFrame, Frame, Joined, Refused as RefusedChunk, As, join}
use Rattle.model.specs.Gateway.{Gateway, Room, with_rooms, with_common, renew, no_room, room_of, unfinished_on, with_unfinished}
use Rattle.model.specs.Receive.{Acted, refuse, here_of, accepted, reacted, decided_in, checked, read_in, is_short, receive}
use Rattle.model.specs.Step.{Outcome, Local, Receive, Release, Clear, CsnpComplete, LookUp, LinkMetric, NextHello, Global, Tick, DatabaseComplete, Waiting, Piece, Begin, Chunk, End, At, Over, Hand, told, asks_level, csnp_complete, look_up, link_metric_of, next_hello, act, lent, lift, refused, on, at, chunked, ended, hand, hand_on, lent_to, Judged, Refused as RefusedCall, Sweep, Tell, none_of, quiet, is_back, tick_of, database_of, judge, carry, step}
use Rattle.model.specs.Refusals.{is_one_of, drops_to, left_refused, RefusalsKeep}
use Rattle.model.proofs.Lists.{renew-numbered}
use Rattle.model.proofs.NumberLaws.{received-by}
use Rattle.std.specs.Prelude.{Option, Some, None, Result, Ok, Err}
use Rattle.adjacency.specs.React.{Reaction}

-- ---- calls on a circuit

-- all is as it was: the common part c, the room r, the lent buffer b
pub record Left (b : List ℕ) (c : Common) (r : Room) (a : Acted) : Type 0 where
  pub common : a.common ≡ c
  pub room : a.room ≡ r
  pub reply : a.reply ≡ b

module _ (b : List ℕ) (c : Common) (r : Room) where
  abbrev Keeps : Acted → Type 0
  Keeps a = (x : Refusal) → a.answer ≡ Refused x → Left b c r a

  refuse-keeps : (x : Refusal) → Keeps (refuse b x c r)
  unfolding refuse
  refuse-keeps x y e = record { common = refl; room = refl; reply = refl }

  cond-keeps : (t : Bool) (p q : Acted) → Keeps p → Keeps q → Keeps (cond t p q)
  cond-keeps true p q f g = f
  cond-keeps false p q f g = g

  reacted-keeps : (n : ℕ) (s : Circuit) (h : Hello) (k : Key) (d : Reaction) → Keeps (reacted n s h k b d c r)
  unfolding reacted accepted
  reacted-keeps n s h k (Err x) = refuse-keeps x
  reacted-keeps n s h k (Ok (after, reply, line)) = λ x e. absurd (let z : ◌≡◌ {A = ℕ} 0 1 = cc in omega arith)

  read_keeps : (n : ℕ) (s : Circuit) (mac : ℕ) (d : Result Hello Refusal) → Keeps (read_in n s mac b d c r)
  unfolding read_in checked decided_in
  read_keeps n s mac (Err x) = refuse-keeps x
  read_keeps n s mac (Ok h) =
      cond-keeps (wrong_source s.levels c.system h) (refuse b WrongSource c r) (decided_in n s mac b h c r) (refuse-keeps WrongSource)
      (reacted-keeps n s h (key_in s.kind mac h) (decided (here_of c s) (key_in s.kind mac h) h r.slots))

  receive-keeps : (n : ℕ) (s : Circuit) (mac : ℕ) (frame : List ℕ) → Keeps (receive n s mac frame b c r)
  unfolding receive
  receive-keeps n s mac frame =
      by-test (is_short b) (λ t. rw t (refuse-keeps ReplyRoom)) (λ t. rw t (read_keeps n s mac (hello_read s.kind s.mac frame)))

told-keeps : (b : List ℕ) (c d : Common) (r q : Room) (f : Fact) → Keeps b c r (told f d q)
told-keeps b c d r q f x e = absurd (let z : ◌≡◌ {A = ℕ} 0 1 = cc in omega arith)

act-keeps : (n : ℕ) (s : Circuit) (l : Local) (c : Common) (r : Room) → Keeps (lent l) c r (act n s l c r)
unfolding act csnp_complete look_up link_metric_of next_hello
act-keeps n s (Receive mac frame b) c r = receive-keeps b c r n s mac frame
act-keeps n s Release c r = told-keeps [] c _ r _ _
act-keeps n s Clear c r = told-keeps [] c _ r _ _
act-keeps n s (CsnpComplete level) c r =
    cond-keeps [] c r (has_level s.levels level) _ _ (cond-keeps [] c r (is_running c.timers.mode) _ _ (refuse-keeps [] c r NotRestarting) (told-keeps [] c _ r _ _))
    (refuse-keeps [] c r NoCircuit)
act-keeps n s (LookUp k) c r =
    cond-keeps [] c r (asks_level s.kind s.levels k.level) _ _ (told-keeps [] c _ r _ _) (refuse-keeps [] c r NoCircuit)
act-keeps n s LinkMetric c r = told-keeps [] c _ r _ _
act-keeps n s (NextHello level) c r =
    cond-keeps [] c r (has_level s.levels level) _ _ (told-keeps [] c _ r _ _) (refuse-keeps [] c r NoCircuit)

-- ---- every call

abbrev Stays : Gateway → List ℕ → Outcome → Type 0
Stays g b o = (x : Refusal) → o.answer ≡ Refused x → (o.next ≡ g) × (o.reply ≡ b)

on-stays : (g : Gateway) (n : ℕ) (l : Local) (q : Option Circuit) → Stays g (lent l) (on g n l q)
unfolding on lift
on-stays g n l None = λ x e. (refl, refl)
on-stays g n l (Some s) = λ x e.
    let k = act-keeps n s l g.common (room_of g n) x e in
    let room = ap (renew g.rooms n) k.room ∙ renew-numbered g.rooms n no_room in
    (ap (λ (c : Common). with_rooms (with_common g c) (renew g.rooms n (act n s l g.common (room_of g n)).room)) k.common ∙ ap (with_rooms g) room, k.reply)

module _ (g : Gateway) where
  abbrev Carried : Judged → Type 0
  Carried d = Stays g [] (carry g d)

  cond-carried : (t : Bool) (p q : Judged) → Carried p → Carried q → Carried (cond t p q)
  cond-carried true p q f h = f
  cond-carried false p q f h = h

  refusing : (x : Refusal) → Carried (RefusedCall x)
  unfolding carry
  refusing x = λ y e. (refl, refl)

  swept-carried : (clock : ℕ) (c : Common) (hellos : Hellos) (o : TimersAnswer) → Carried (Sweep clock c hellos o)
  unfolding carry
  swept-carried clock c hellos o = λ y e. absurd (let z : ◌≡◌ {A = ℕ} 0 1 = cc in omega arith)

  told-carried : (c : Common) (f : Fact) → Carried (Tell c (Told f))
  unfolding carry
  told-carried c f = λ y e. absurd (let z : ◌≡◌ {A = ℕ} 0 1 = cc in omega arith)

  quiet-carried : (c : Common) → Carried (Tell c quiet)
  unfolding carry
  quiet-carried c = λ y e. absurd (let z : ◌≡◌ {A = ℕ} 0 1 = cc in omega arith)

  judged : (c : Common) (w : Global) → Carried (judge c w)
  unfolding judge tick_of database_of
  judged c (Tick clock) =
      cond-carried (none_of c.circuits) _ _ (quiet-carried c)
      (cond-carried (is_back clock c) _ _ (refusing ClockBack) (swept-carried clock _ _ _))
  judged c (DatabaseComplete level) =
      cond-carried (has_level (enabled_levels c.circuits) level) _ _ (cond-carried (is_running c.timers.mode) _ _ (refusing NotRestarting) (told-carried _ _)) (refusing NoCircuit)
  judged c Waiting = told-carried c _

-- ---- a frame in chunks

chunk-stays : (g : Gateway) (n : ℕ) (j : Joined) → Stays g [] (chunked g n j)
unfolding chunked
chunk-stays g n (RefusedChunk x) = λ y e. (refl, refl)
chunk-stays g n (As u) = λ y e. absurd (let z : ◌≡◌ {A = ℕ} 0 1 = cc in omega arith)

-- of a refusal x: an end's goes by its number
abbrev Leaves : Gateway → ℕ → Piece → Outcome → Type 0
Leaves g n p o = (x : Refusal) → o.answer ≡ Refused x → (o.next ≡ left_refused g (Hand n p) x) × (o.reply ≡ lent_to p)

refused-leaves : (g : Gateway) (n : ℕ) (p : Piece) (r : Refusal) → drops_to p r ≡ false → Leaves g n p (refused g (lent_to p) r)
refused-leaves g n p r d x e =
    let z : r ≡ x = cc in
    (rw (← z, d) refl, refl)

-- 1 drops none
unknown-leaves : (g : Gateway) (n : ℕ) (p : Piece) → Leaves g n p (refused g (lent_to p) NoCircuit)
unfolding is_one_of
unknown-leaves g n (Begin mac) = refused-leaves g n (Begin mac) NoCircuit refl
unknown-leaves g n (Chunk octets) = refused-leaves g n (Chunk octets) NoCircuit refl
unknown-leaves g n (End b) = refused-leaves g n (End b) NoCircuit refl

end_leaves : (g : Gateway) (n : ℕ) (s : Circuit) (b : List ℕ) (u : Unfinished) → circuit_of g.common n ≡ Some s → Leaves g n (End b) (ended g n b u)
unfolding ended at is_one_of
end_leaves g n s b NoFrame known = refused-leaves g n (End b) NotBegun refl
end_leaves g n s b (Frame mac octets) known = λ x e.
    let k = on-stays (with_unfinished g n NoFrame) n (Receive mac octets b) (circuit_of g.common n) x e in
    (rw (received-by (with_unfinished g n NoFrame) n s known mac octets b x e) k.0, k.1)

hand-leaves : (g : Gateway) (n : ℕ) (p : Piece) (q : Option Circuit) → circuit_of g.common n ≡ q → Leaves g n p (hand_on g n p q)
unfolding hand_on hand
hand-leaves g n p None known = unknown-leaves g n p
hand-leaves g n (Begin mac) (Some s) known = λ x e. absurd (let z : ◌≡◌ {A = ℕ} 0 1 = cc in omega arith)
hand-leaves g n (Chunk octets) (Some s) known = chunk-stays g n (join (unfinished_on g n) octets)
hand-leaves g n (End b) (Some s) known = end_leaves g n s b (unfinished_on g n) known

pub refusals-keep : RefusalsKeep
unfolding step at
refusals-keep g (At n l) x e = on-stays g n l (circuit_of g.common n) x e
refusals-keep g (Over w) x e = judged g g.common w x e
refusals-keep g (Hand n p) x e = hand-leaves g n p (circuit_of g.common n) refl x e
