-- How near two runs stay: the invariant of demand 3, kept by a call on a circuit and by one that names none. Callers: NearSteps, Isolation.
use Prim.Native.Nat.{ℕ, zero, suc}
use mathlib.Core.Path.{◌≡◌, refl, sym, ap, ◌∙◌, subst}
use mathlib.Core.Logic.{◌≢◌}
use mathlib.Core.Bool.{Bool, true, false, not, ◌&&◌, true≢false, false≢true}
use mathlib.Core.List.{List, map}
use lib.ListN.{length, length-map}
use lib.Dec.{eqb}
use borrow.Author.Tests.{eq-eqb}
use Rattle.basics.proofs.BoolLaws.{by-test, and_left, and-false}
use Rattle.basics.specs.declared.kind.CircuitKind.{CircuitKind}
use Rattle.basics.specs.declared.kind.CircuitKind.TheVariants.{Lan, P2p}
use Rattle.basics.specs.declared.refusal.Refusal.{Refusal}
use Rattle.basics.specs.Levels.{has_level}
use Rattle.adjacency.specs.Place.{expired_by}
use Rattle.room.specs.Table.{find, sweep}
use Rattle.basics.specs.Lists.{some}
use Rattle.timers.specs.Hellos.{Hellos}
use Rattle.timers.specs.Timers.{to_t3}
use Rattle.settings.specs.declared.mode.Mode.TheVariants.{Running}
use Rattle.timers.proofs.TimersLaws.{mode-running}
use Rattle.settings.specs.Settings.{enabled_levels}
use Rattle.settings.specs.declared.circuit.Circuit.{Circuit}
use Rattle.control.specs.Common.{Common, circuit_of}
use Rattle.model.specs.Answers.{Answer, TimersAnswer}
use Rattle.model.specs.Gateway.{Room, Gateway, with_rooms, with_common, numbered, renew, no_room, room_of, record_at, unfinished_on}
use Rattle.model.specs.Receive.{Acted}
use Rattle.model.specs.Step.{Local, Global, Tick, DatabaseComplete, Waiting, Call, At, Over, Outcome, act, lift, on, Judged, Refused as RefusedCall, Sweep, Tell, none_of, is_back, tick_of, database_of, judge, swept_room, lapsed, carry}
use Rattle.model.specs.Claim.{Neighbour, is_sent, is_lan, is_there, still, Observation, without_lost, compared, Agree}
use Rattle.model.proofs.Lists.{renew-both, length-renew, renew-numbered, numbered-map, ext-numbered}
use Rattle.model.proofs.ButFor.{ButFor, but-for-refl, but-for-sym, but-for-trans, but-for-find, but-for-sweep, Same, act-its, act-both, act-common}
use Rattle.std.specs.Prelude.{Option, Some, None}

-- s₁ and s₂: the promise for its LAN stands in each run
pub record Near (b : Neighbour) (s₁ s₂ : Bool) (g₁ g₂ : Gateway) : Type 0 where
  pub common : g₁.common ≡ g₂.common
  pub mode : g₁.common.timers.mode ≡ Running
  pub lan₁ : s₁ ≡ true → is_lan (circuit_of g₁.common b.circuit) ≡ true
  pub lan₂ : s₂ ≡ true → is_lan (circuit_of g₂.common b.circuit) ≡ true
  pub size : length g₁.rooms ≡ length g₂.rooms
  pub elsewhere : (n : ℕ) → n ≢ b.circuit → room_of g₁ n ≡ room_of g₂ n
  pub frames : length g₁.unfinished ≡ length g₂.unfinished
  pub unfinished : (n : ℕ) → n ≢ b.circuit → unfinished_on g₁ n ≡ unfinished_on g₂ n
  pub own : s₁ ≡ true → s₂ ≡ true → ButFor b.mac (room_of g₁ b.circuit).slots (room_of g₂ b.circuit).slots

pub near-sym : {b : Neighbour} {s₁ s₂ : Bool} {g₁ g₂ : Gateway} → Near b s₁ s₂ g₁ g₂ → Near b s₂ s₁ g₂ g₁
near-sym n =
    record {
      common = sym n.common;
      mode = rw n.common at n.mode;
      lan₁ = n.lan₂;
      lan₂ = n.lan₁;
      size = sym n.size;
      elsewhere = λ i h. sym (n.elsewhere i h);
      frames = sym n.frames;
      unfinished = λ i h. sym (n.unfinished i h);
      own = λ h₁ h₂. but-for-sym (n.own h₂ h₁);
    }

-- ---- the promise for its LAN

-- a run in which the promise still stands did not answer 9
stood : (s e f : Bool) → s && not (e && f) ≡ true → e ≡ true → f ≡ false
stood s e false h q = refl
stood s e true h q = absurd (false≢true (sym (and-false s) ∙ sym (ap (λ (x : Bool). s && not (x && true)) q) ∙ h))

lan-kind : (s : Circuit) (k : CircuitKind) → s.kind ≡ k → is_lan (Some s) ≡ true → k ≡ Lan
unfolding is_lan
lan-kind s Lan e h = refl
lan-kind s P2p e h = absurd (false≢true (rw e at h))

-- ---- what is compared

abbrev sight : Neighbour → Bool → Call → Outcome → Observation
sight b s c o = record { call = c; stands = still b s c o.answer; outcome = o }

pub record Kept (b : Neighbour) (s₁ s₂ : Bool) (c : Call) (x y : Outcome) : Type 0 where
  pub agree : Agree b (sight b s₁ c x) (sight b s₂ c y)
  pub near : Near b (still b s₁ c x.answer) (still b s₂ c y.answer) x.next y.next

-- the records follow from nearness
pub kept-of-near : (b : Neighbour) (s₁ s₂ : Bool) (c : Call) (x y : Outcome)
    → Near b (still b s₁ c x.answer) (still b s₂ c y.answer) x.next y.next
    → (is_there b c ≡ false → (compared b c x.answer ≡ compared b c y.answer) × (x.reply ≡ y.reply))
    → (still b s₁ c x.answer ≡ true → still b s₂ c y.answer ≡ true
    → (compared b c x.answer ≡ compared b c y.answer) × (x.reply ≡ y.reply))
    → Kept b s₁ s₂ c x y
unfolding record_at
kept-of-near b s₁ s₂ c x y n away there =
    record {
      agree = record {
        call = refl;
        records = λ i k h. ap (λ (r : Room). find k r.slots) (n.elsewhere i h);
        unfinished = n.unfinished;
        answer = λ h. (away h).0;
        reply = λ h. (away h).1;
        own-records = λ h₁ h₂ k h. but-for-find (n.own h₁ h₂) k h;
        own-answer = λ h₁ h₂. (there h₁ h₂).0;
        own-reply = λ h₁ h₂. (there h₁ h₂).1;
      };
      near = n;
    }

-- ---- what a call that names no circuit leaves as it was, in the mode Running

pub data Steady (c : Common) : Judged → Type 0 where
  refusing : {x : Refusal} → Steady c (RefusedCall x)
  sweeping : {clock : ℕ} {d : Common} {hellos : Hellos} {o : TimersAnswer} → d.timers.mode ≡ Running → d.circuits ≡ c.circuits
      → Steady c (Sweep clock d hellos o)
  telling : {d : Common} {a : Answer} → d.timers.mode ≡ Running → d.circuits ≡ c.circuits → Steady c (Tell d a)

pub judge-steady : (c : Common) (w : Global) → c.timers.mode ≡ Running → Steady c (judge c w)
unfolding judge tick_of database_of
judge-steady c (Tick clock) run =
    by-test (none_of c.circuits) (λ h. rw h (telling run refl))
    (λ h.
    by-test (is_back clock c) (λ e. rw (h, e) refusing)
    (λ e. rw (h, e) (sweeping (mode-running c.timers run (to_t3 c.lengths clock)) refl)))
judge-steady c (DatabaseComplete level) run =
    by-test (has_level (enabled_levels c.circuits) level) (λ h. rw (h, run) refusing) (λ h. rw h refusing)
judge-steady c Waiting run = telling run refl

pub circuit_of-same : (c d : Common) → d.circuits ≡ c.circuits → (n : ℕ) → circuit_of d n ≡ circuit_of c n
unfolding circuit_of
circuit_of-same c d e zero = refl
circuit_of-same c d e (suc i) = cc

-- ---- a tick's sweep

swept_at : (clock : ℕ) (rs : List Room) (n : ℕ) → numbered (map (swept_room clock) rs) n no_room ≡ swept_room clock (numbered rs n no_room)
unfolding sweep
swept_at clock rs n = numbered-map (swept_room clock) rs n no_room

lapsed-at : (clock : ℕ) (rs : List Room) (n : ℕ) → numbered (map (lapsed clock) rs) n false ≡ lapsed clock (numbered rs n no_room)
unfolding some
lapsed-at clock rs n = numbered-map (lapsed clock) rs n no_room

-- the marks, but for one circuit
marks-same : (clock b : ℕ) (r₁ r₂ : List Room) → length r₁ ≡ length r₂
    → ((n : ℕ) → n ≢ b → numbered r₁ n no_room ≡ numbered r₂ n no_room)
    → renew (map (lapsed clock) r₁) b false ≡ renew (map (lapsed clock) r₂) b false
marks-same clock b r₁ r₂ e h =
    let m : length (map (lapsed clock) r₁) ≡ length (map (lapsed clock) r₂) = cc (length-map r₁ (lapsed clock), length-map r₂ (lapsed clock)) in
    ext-numbered false _ _ (cc (length-renew (map (lapsed clock) r₁) b false, length-renew (map (lapsed clock) r₂) b false))
    (λ j.
    renew-both (λ x y. x ≡ y) false false false refl (map (lapsed clock) r₁) (map (lapsed clock) r₂) b j m
    (λ q. cc (lapsed-at clock r₁ j, lapsed-at clock r₂ j, h j (λ p. q (sym p)))) (λ q. refl))

-- ---- every call

module _ (b : Neighbour) (s₁ s₂ : Bool) (g₁ g₂ : Gateway) (n : Near b s₁ s₂ g₁ g₂) where
  mode₂ : g₂.common.timers.mode ≡ Running
  mode₂ = (near-sym n).mode

  -- one room is renewed in both
  set-near : (z₁ z₂ : Bool) → (z₁ ≡ true → s₁ ≡ true) → (z₂ ≡ true → s₂ ≡ true) → (c₁ c₂ : Common) → c₁ ≡ g₁.common → c₂ ≡ g₂.common
      → (i : ℕ) (r₁ r₂ : Room) → (i ≢ b.circuit → r₁ ≡ r₂)
      → (i ≡ b.circuit → z₁ ≡ true → z₂ ≡ true → ButFor b.mac r₁.slots r₂.slots)
      → Near b z₁ z₂ (with_rooms (with_common g₁ c₁) (renew g₁.rooms i r₁)) (with_rooms (with_common g₂ c₂) (renew g₂.rooms i r₂))
  set-near z₁ z₂ w₁ w₂ c₁ c₂ e₁ e₂ i r₁ r₂ away there =
      record {
        common = e₁ ∙ n.common ∙ sym e₂;
        mode = rw e₁ n.mode;
        lan₁ = λ h. rw e₁ (n.lan₁ (w₁ h));
        lan₂ = λ h. rw e₂ (n.lan₂ (w₂ h));
        size = cc (length-renew g₁.rooms i r₁, length-renew g₂.rooms i r₂, n.size);
        elsewhere = λ j h.
            renew-both (λ x y. x ≡ y) no_room r₁ r₂ refl g₁.rooms g₂.rooms i j n.size (λ q. n.elsewhere j h) (λ q. away (rw q h));
        frames = n.frames;
        unfinished = n.unfinished;
        own = λ h₁ h₂.
            renew-both (λ x y. ButFor b.mac x.slots y.slots) no_room r₁ r₂ (but-for-refl _ _) g₁.rooms g₂.rooms i b.circuit
            n.size (λ q. n.own (w₁ h₁) (w₂ h₂)) (λ q. there q h₁ h₂);
      }

  -- the common part is changed alike in both
  common-near : (z₁ z₂ : Bool) → (z₁ ≡ true → s₁ ≡ true) → (z₂ ≡ true → s₂ ≡ true) → (c₁ c₂ : Common) → c₁ ≡ c₂
      → c₁.timers.mode ≡ Running → c₁.circuits ≡ g₁.common.circuits
      → Near b z₁ z₂ (with_common g₁ c₁) (with_common g₂ c₂)
  common-near z₁ z₂ w₁ w₂ c₁ c₂ e m q =
      let k₁ : circuit_of c₁ b.circuit ≡ circuit_of g₁.common b.circuit = circuit_of-same g₁.common c₁ q b.circuit in
      let k₂ : circuit_of c₂ b.circuit ≡ circuit_of g₂.common b.circuit = cc (e, n.common) in
      record {
        common = e;
        mode = m;
        lan₁ = λ h. rw k₁ (n.lan₁ (w₁ h));
        lan₂ = λ h. rw k₂ (n.lan₂ (w₂ h));
        size = n.size;
        elsewhere = n.elsewhere;
        frames = n.frames;
        unfinished = n.unfinished;
        own = λ h₁ h₂. n.own (w₁ h₁) (w₂ h₂);
      }

  -- nothing is changed
  pub same-near : (z₁ z₂ : Bool) → (z₁ ≡ true → s₁ ≡ true) → (z₂ ≡ true → s₂ ≡ true) → Near b z₁ z₂ g₁ g₂
  same-near z₁ z₂ w₁ w₂ = common-near z₁ z₂ w₁ w₂ g₁.common g₂.common n.common n.mode refl

  -- a call c that is one on another circuit
  lift-away : (i : ℕ) (f : Common → Room → Acted) → i ≢ b.circuit
      → ((lift g₁ i f).answer ≡ (lift g₂ i f).answer) × ((lift g₁ i f).reply ≡ (lift g₂ i f).reply)
  unfolding lift
  lift-away i f h = (cc (n.common, n.elsewhere i h), cc (n.common, n.elsewhere i h))

  pub away-on : (c : Call) (i : ℕ) (l : Local) → i ≢ b.circuit → (q : Option Circuit) → Kept b s₁ s₂ c (on g₁ i l q) (on g₂ i l q)
  unfolding on lift
  away-on c i l h None = kept-of-near b s₁ s₂ _ _ _ (same-near _ _ (and_left _ _) (and_left _ _)) (λ e. (refl, refl)) (λ h₁ h₂. (refl, refl))
  away-on c i l h (Some s) =
      let room : (act i s l g₁.common (room_of g₁ i)).room ≡ (act i s l g₂.common (room_of g₂ i)).room = cc (n.common, n.elsewhere i h) in
      let k = lift-away i (act i s l) h in
      let answer = ap (compared b c) k.0 in
      kept-of-near b s₁ s₂ _ _ _
      (set-near _ _ (and_left _ _) (and_left _ _) _ _ (act-common i s _ _ n.mode l) (act-common i s _ _ mode₂ l) i _ _ (λ e. room)
      (λ e. absurd (h e)))
      (λ e. (answer, k.1)) (λ h₁ h₂. (answer, k.1))

  -- a shared call on its circuit
  pub own_on : (l : Local) → is_sent b l ≡ false → (q : Option Circuit) → (s₁ ≡ true → is_lan q ≡ true)
      → Kept b s₁ s₂ (At b.circuit l) (on g₁ b.circuit l q) (on g₂ b.circuit l q)
  unfolding on lift compared is_there
  own_on l e None lan = kept-of-near b s₁ s₂ _ _ _ (same-near _ _ (and_left _ _) (and_left _ _)) (λ e. (refl, refl)) (λ h₁ h₂. (refl, refl))
  own_on l e (Some s) lan =
      let i : ℕ = b.circuit in
      let yes = eq-eqb i i refl in
      let r₁ = room_of g₁ i in
      let r₂ = room_of g₂ i in
      let both : still b s₁ (At i l) (on g₁ i l (Some s)).answer ≡ true → still b s₂ (At i l) (on g₂ i l (Some s)).answer ≡ true
      → Same b l (act i s l g₁.common r₁) (act i s l g₂.common r₂) =
      rw (← n.common)
      (λ h₁ h₂.
      act-both b i s l g₁.common r₁ r₂ n.mode (lan-kind s _ refl (lan (and_left s₁ _ h₁))) e
      (n.own (and_left s₁ _ h₁) (and_left s₂ _ h₂)) (stood s₁ (eqb i i) _ h₁ yes) (stood s₂ (eqb i i) _ h₂ yes)) in
      kept-of-near b s₁ s₂ _ _ _
      (set-near _ _ (and_left _ _) (and_left _ _) _ _ (act-common i s _ _ n.mode l) (act-common i s _ _ mode₂ l) i _ _
      (λ h. absurd (h refl)) (λ q h₁ h₂. (both h₁ h₂).room))
      (λ h. absurd (true≢false (sym yes ∙ h))) (λ h₁ h₂. rw yes ((both h₁ h₂).answer, (both h₁ h₂).reply))

  -- a call on its circuit, in the first run alone
  pub alone-on : (z : Bool) → (z ≡ true → s₁ ≡ true) → (l : Local) (q : Option Circuit)
      → ((s : Circuit) → q ≡ Some s → z ≡ true
      → ButFor b.mac (act b.circuit s l g₁.common (room_of g₁ b.circuit)).room.slots (room_of g₁ b.circuit).slots)
      → Near b z s₂ (on g₁ b.circuit l q).next g₂
  unfolding on lift
  alone-on z w l None but = same-near z s₂ w (λ h. h)
  alone-on z w l (Some s) but =
      let i : ℕ = b.circuit in
      subst (λ (rs : List Room). Near b z s₂ (on g₁ i l (Some s)).next (with_rooms g₂ rs)) (renew-numbered g₂.rooms i no_room)
      (set-near z s₂ w (λ h. h) _ _ (act-common i s _ _ n.mode l) refl i _ (room_of g₂ i) (λ h. absurd (h refl))
      (λ q h₁ h₂. but-for-trans (but s refl h₁) (n.own (w h₁) h₂)))

  -- its frame
  pub its-on : (l : Local) → is_sent b l ≡ true → (q : Option Circuit) → (s₁ ≡ true → is_lan q ≡ true)
      → Near b (still b s₁ (At b.circuit l) (on g₁ b.circuit l q).answer) s₂ (on g₁ b.circuit l q).next g₂
  its-on l e q lan =
      alone-on _ (and_left _ _) l q
      (λ s r h. act-its b b.circuit s l g₁.common (room_of g₁ b.circuit) (lan-kind s _ refl (ap is_lan (sym r) ∙ lan (and_left s₁ _ h))) e)

  -- a call that names no circuit
  pub carry-kept : (w : Global) (d : Judged) → Steady g₁.common d → Kept b s₁ s₂ (Over w) (carry g₁ d) (carry g₂ d)
  unfolding carry is_there compared without_lost
  carry-kept w d refusing = kept-of-near b s₁ s₂ _ _ _ (same-near _ _ (and_left _ _) (and_left _ _)) (λ e. (refl, refl)) (λ h₁ h₂. (refl, refl))
  carry-kept w d (telling m q) =
      kept-of-near b s₁ s₂ _ _ _ (common-near _ _ (and_left _ _) (and_left _ _) _ _ refl m q) (λ e. (refl, refl)) (λ h₁ h₂. (refl, refl))
  carry-kept w d (sweeping {clock} m q) =
      let c = common-near _ _ (and_left s₁ _) (and_left s₂ _) _ _ refl m q in
      let lost = marks-same clock b.circuit g₁.rooms g₂.rooms n.size n.elsewhere in
      kept-of-near b s₁ s₂ _ _ _
      (record {
        common = refl;
        mode = m;
        lan₁ = c.lan₁;
        lan₂ = c.lan₂;
        size = cc (length-map g₁.rooms (swept_room clock), length-map g₂.rooms (swept_room clock), n.size);
        elsewhere = λ i h. cc (swept_at clock g₁.rooms i, swept_at clock g₂.rooms i, n.elsewhere i h);
        frames = n.frames;
        unfinished = n.unfinished;
        own = λ h₁ h₂.
            rw (swept_at clock g₁.rooms b.circuit, swept_at clock g₂.rooms b.circuit)
            (but-for-sweep (expired_by clock) (c.own h₁ h₂));
      })
      (λ e. (cc, refl)) (λ h₁ h₂. (cc, refl))
