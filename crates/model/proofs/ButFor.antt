-- The bad neighbour's own LAN in two runs: the records of every other MAC are the same by key. A shared call keeps it so until a run
-- answers 9, and so does one of its own frames in one run alone; and in the mode Running a call on a circuit leaves the common part as
-- it was. Callers: Near. None opens the frame's decoding, the state step, the reply's octets, line 1's order or the timers.
use Prim.Native.Nat.{ℕ}
use mathlib.Core.Path.{◌≡◌, refl, sym, ap, ◌∙◌}
use mathlib.Core.Logic.{◌≢◌}
use mathlib.Core.Bool.{Bool, true, false, cond, true≢false, false≢true}
use mathlib.Core.List.{List, []}
use lib.Dec.{eqb}
use borrow.Author.Tests.{eqb-true, eqb-false}
use Rattle.basics.proofs.BoolLaws.{by-test}
use Rattle.hello.specs.Hello.{hello_read}
use Rattle.basics.specs.declared.kind.CircuitKind.TheVariants.{Lan}
use Rattle.hello.specs.declared.read.Hello.{Hello}
use Rattle.basics.specs.declared.refusal.Refusal.{Refusal}
use Rattle.basics.specs.declared.refusal.Refusal.TheVariants.{NoCircuit, ReplyRoom, WrongSource, NoRoom, NotRestarting}
use Rattle.adjacency.specs.React.{react_of}
use Rattle.basics.specs.Levels.{has_level}
use Rattle.adjacency.specs.Step.{wrong_source}
use Rattle.adjacency.specs.declared.marks.Line.{Line}
use Rattle.adjacency.specs.declared.record.Key.{Key}
use Rattle.adjacency.specs.declared.record.State.{State}
use Rattle.adjacency.specs.Keys.{same_key, key_on, key_in}
use Rattle.adjacency.specs.Place.{planned_state}
use Rattle.adjacency.specs.declared.place.Slot.{Slot}
use Rattle.room.specs.Table.{find, crowded, sweep}
use Rattle.room.specs.Gather.{gather}
use Rattle.adjacency.proofs.KeysLaws.{same_key-eq, same_key-mac}
use Rattle.room.proofs.TableLaws.{find-is, gather-sweep, gather-put-other, gather-put-same}
use Rattle.timers.specs.Timers.{Timers}
use Rattle.settings.specs.declared.mode.Mode.TheVariants.{Running}
use Rattle.timers.proofs.TimersLaws.{heard-running}
use Rattle.settings.specs.declared.circuit.Circuit.{Circuit}
use Rattle.control.specs.Common.{Common, with_timers}
use Rattle.room.specs.Accept.{if_room, decided, kept}
use Rattle.model.specs.Gateway.{Room}
use Rattle.model.specs.Receive.{Acted, refuse, here_of, said_of, t1_of, accepted, reacted, decided_in, checked, read_in, is_short, receive}
use Rattle.model.specs.Step.{Local, Receive, Release, Clear, CsnpComplete, LookUp, LinkMetric, NextHello, csnp_complete, asks_level, look_up, link_metric_of, next_hello, act}
use Rattle.model.specs.Claim.{Neighbour, is_sent, is_nine, unordered, compared_there}
use Rattle.std.specs.Prelude.{Option, Some, None, Result, Ok, Err}
use Rattle.adjacency.specs.React.{Reaction}
use Rattle.restart_tlv.specs.declared.writer.Ack.{Ack}

-- the records of every MAC but m are the same
pub record ButFor (m : ℕ) (t₁ t₂ : List Slot) : Type 0 where
  pub at : (k : Key) → k.mac ≢ m → gather k t₁ ≡ gather k t₂

pub but-for-refl : (m : ℕ) (t : List Slot) → ButFor m t t
but-for-refl m t = record { at = λ k h. refl }

pub but-for-sym : {m : ℕ} {t₁ t₂ : List Slot} → ButFor m t₁ t₂ → ButFor m t₂ t₁
but-for-sym b = record { at = λ k h. sym (b.at k h) }

pub but-for-trans : {m : ℕ} {t₁ t₂ t₃ : List Slot} → ButFor m t₁ t₂ → ButFor m t₂ t₃ → ButFor m t₁ t₃
but-for-trans b c = record { at = λ k h. b.at k h ∙ c.at k h }

pub but-for-find : {m : ℕ} {t₁ t₂ : List Slot} → ButFor m t₁ t₂ → (k : Key) → k.mac ≢ m → find k t₁ ≡ find k t₂
but-for-find {t₁} {t₂} b k h = cc (find-is k t₁, find-is k t₂, b.at k h)

pub but-for-sweep : {m : ℕ} {t₁ t₂ : List Slot} (p : State → Bool) → ButFor m t₁ t₂ → ButFor m (sweep p t₁) (sweep p t₂)
but-for-sweep {t₁} {t₂} p b = record { at = λ k h. cc (gather-sweep p k t₁, gather-sweep p k t₂, b.at k h) }

-- the same record is kept in both
but-for-kept : {m : ℕ} {t₁ t₂ : List Slot} (k : Key) (a : Option State) → crowded k t₁ ≡ false → crowded k t₂ ≡ false → ButFor m t₁ t₂
    → ButFor m (kept k a t₁) (kept k a t₂)
unfolding kept
but-for-kept k None e₁ e₂ b = b
but-for-kept {t₁} {t₂} k (Some s) e₁ e₂ b =
    record {
      at = λ j h.
          let p = b.at j h in
          by-test (same_key j k) (λ e. let q = same_key-eq j k e in cc (gather-put-same k s t₁ e₁, gather-put-same k s t₂ e₂))
          (λ e. cc (gather-put-other j k s t₁ e, gather-put-other j k s t₂ e));
    }

-- a record of the MAC m is kept: nothing else is changed
kept-but-for : {m : ℕ} (k : Key) (a : Option State) (t : List Slot) → k.mac ≡ m → ButFor m (kept k a t) t
unfolding kept
kept-but-for {m} k None t e = but-for-refl m t
kept-but-for k (Some s) t e =
    record { at = λ j h. gather-put-other j k s t (by-test (same_key j k) (λ q. absurd (h (same_key-mac j k q ∙ e))) (λ q. q)) }

-- what two calls on the circuit must have in common
pub record Same (b : Neighbour) (l : Local) (x y : Acted) : Type 0 where
  pub room : ButFor b.mac x.room.slots y.room.slots
  pub answer : compared_there b l x.answer ≡ compared_there b l y.answer
  pub reply : x.reply ≡ y.reply

-- on a LAN a frame's key has the source MAC
key-mac : (s : Circuit) (mac : ℕ) (h : Hello) → s.kind ≡ Lan → (key_in s.kind mac h).mac ≡ mac
unfolding key_on
key-mac s mac h lan = rw (lan, key_on)

-- ---- the bad neighbour's frame, in one run

module _ (n : ℕ) (s : Circuit) (mac : ℕ) (lan : s.kind ≡ Lan) (buf : List ℕ) (c : Common) (r : Room) where
  reacted-its : (h : Hello) (k : Key) (a : Reaction) → k.mac ≡ mac → ButFor mac (reacted n s h k buf a c r).room.slots r.slots
  unfolding reacted refuse accepted
  reacted-its h k (Err x) e = but-for-refl mac r.slots
  reacted-its h k (Ok (after, reply, line)) e = kept-but-for k _ r.slots e

  checked-its : (h : Hello) → ButFor mac (checked n s mac buf h c r).room.slots r.slots
  unfolding checked decided_in refuse
  checked-its h =
      by-test (wrong_source s.levels c.system h) (λ e. rw e (but-for-refl mac r.slots))
      (λ e. rw e (reacted-its h _ _ (key-mac s mac h lan)))

  read-its : (d : Result Hello Refusal) → ButFor mac (read_in n s mac buf d c r).room.slots r.slots
  unfolding read_in refuse
  read-its (Err x) = but-for-refl mac r.slots
  read-its (Ok h) = checked-its h

  receive-its : (frame : List ℕ) → ButFor mac (receive n s mac frame buf c r).room.slots r.slots
  unfolding receive refuse
  receive-its frame =
      by-test (is_short buf) (λ e. rw e (but-for-refl mac r.slots))
      (λ e. rw e (read-its (hello_read s.kind s.mac frame)))

pub act-its : (b : Neighbour) (n : ℕ) (s : Circuit) (l : Local) (c : Common) (r : Room) → s.kind ≡ Lan → is_sent b l ≡ true
    → ButFor b.mac (act n s l c r).room.slots r.slots
unfolding act is_sent
act-its b n s (Receive mac frame buf) c r lan e = rw (← eqb-true mac b.mac e) (receive-its n s mac lan buf c r frame)
act-its b n s Release c r lan e = absurd (false≢true e)
act-its b n s Clear c r lan e = absurd (false≢true e)
act-its b n s (CsnpComplete level) c r lan e = absurd (false≢true e)
act-its b n s (LookUp k) c r lan e = absurd (false≢true e)
act-its b n s LinkMetric c r lan e = absurd (false≢true e)
act-its b n s (NextHello level) c r lan e = absurd (false≢true e)

-- ---- a shared call, in both runs

-- a run that answers 9 is not asked
not-nine : (buf : List ℕ) (c : Common) (r : Room) → is_nine (refuse buf NoRoom c r).answer ≡ false → ⊥
unfolding refuse is_nine
not-nine buf c r e = true≢false e

module _ (b : Neighbour) (n : ℕ) (s : Circuit) (mac : ℕ) (frame buf : List ℕ) (c : Common) (r₁ r₂ : Room)
    (near : ButFor b.mac r₁.slots r₂.slots) where
  abbrev Both : Acted → Acted → Type 0
  Both x y = is_nine x.answer ≡ false → is_nine y.answer ≡ false → Same b (Receive mac frame buf) x y

  both-refuse : (x : Refusal) → Both (refuse buf x c r₁) (refuse buf x c r₂)
  unfolding refuse
  both-refuse x h₁ h₂ = record { room = near; answer = refl; reply = refl }

  both-accepted : (h : Hello) (k : Key) (after : Option State) (reply : Option (Ack × ℕ)) (line : Line)
      → crowded k r₁.slots ≡ false → crowded k r₂.slots ≡ false → find k r₁.slots ≡ find k r₂.slots
      → Both (accepted n s h k buf after reply line c r₁) (accepted n s h k buf after reply line c r₂)
  unfolding accepted compared_there unordered
  both-accepted h k after reply line e₁ e₂ f h₁ h₂ = record { room = but-for-kept k _ e₁ e₂ near; answer = rw f refl; reply = refl }

  reacted-both : (h : Hello) (k : Key) (a : Reaction) → find k r₁.slots ≡ find k r₂.slots
      → Both (reacted n s h k buf (if_room (crowded k r₁.slots) a) c r₁) (reacted n s h k buf (if_room (crowded k r₂.slots) a) c r₂)
  unfolding reacted if_room
  reacted-both h k (Err x) f = both-refuse x
  reacted-both h k (Ok (after, reply, line)) f =
      by-test (crowded k r₁.slots) (λ e₁. rw e₁ (λ h₁ h₂. absurd (not-nine buf c r₁ h₁)))
      (λ e₁.
      by-test (crowded k r₂.slots) (λ e₂. rw e₂ (λ h₁ h₂. absurd (not-nine buf c r₂ h₂)))
      (λ e₂. rw (e₁, e₂) (both-accepted h k after reply line e₁ e₂ f)))

  decided-both : s.kind ≡ Lan → mac ≢ b.mac → (h : Hello) → Both (decided_in n s mac buf h c r₁) (decided_in n s mac buf h c r₂)
  unfolding decided_in decided
  decided-both lan other h =
      let k : Key = key_in s.kind mac h in
      let f = but-for-find near k (λ e. other (sym (key-mac s mac h lan) ∙ e)) in
      rw (ap (react_of (here_of c s) h) f) (reacted-both h k (react_of (here_of c s) h (find k r₂.slots)) f)

  read-both : s.kind ≡ Lan → mac ≢ b.mac → (d : Result Hello Refusal) → Both (read_in n s mac buf d c r₁) (read_in n s mac buf d c r₂)
  unfolding read_in checked
  read-both lan other (Err x) = both-refuse x
  read-both lan other (Ok h) =
      by-test (wrong_source s.levels c.system h) (λ e. rw e (both-refuse WrongSource)) (λ e. rw e (decided-both lan other h))

  receive-both : s.kind ≡ Lan → mac ≢ b.mac → Both (receive n s mac frame buf c r₁) (receive n s mac frame buf c r₂)
  unfolding receive
  receive-both lan other =
      by-test (is_short buf) (λ e. rw e (both-refuse ReplyRoom))
      (λ e. rw e (read-both lan other (hello_read s.kind s.mac frame)))

-- in the mode Running the notice is refused, by the level
csnp-refused : (n : ℕ) (s : Circuit) (level : ℕ) (c : Common) (r : Room) → c.timers.mode ≡ Running
    → csnp_complete n s level c r ≡ refuse [] (cond (has_level s.levels level) NotRestarting NoCircuit) c r
unfolding csnp_complete
csnp-refused n s level c r run = by-test (has_level s.levels level) (λ e. cc) (λ e. cc)

look-both : (b : Neighbour) (s : Circuit) (k : Key) (c : Common) (r₁ r₂ : Room) → s.kind ≡ Lan → ButFor b.mac r₁.slots r₂.slots
    → Same b (LookUp k) (look_up s k c r₁) (look_up s k c r₂)
unfolding look_up refuse compared_there key_on
look-both b s k c r₁ r₂ lan near =
    by-test (asks_level s.kind s.levels k.level)
    (λ e.
    rw (e, lan)
    (record {
      room = near;
      answer = by-test (eqb k.mac b.mac) (λ q. cc) (λ q. cc (but-for-find near k (eqb-false _ _ q)));
      reply = refl;
    }))
    (λ e. rw e (record { room = near; answer = refl; reply = refl }))

pub act-both : (b : Neighbour) (n : ℕ) (s : Circuit) (l : Local) (c : Common) (r₁ r₂ : Room) → c.timers.mode ≡ Running → s.kind ≡ Lan
    → is_sent b l ≡ false → ButFor b.mac r₁.slots r₂.slots → is_nine (act n s l c r₁).answer ≡ false
    → is_nine (act n s l c r₂).answer ≡ false → Same b l (act n s l c r₁) (act n s l c r₂)
unfolding act is_sent compared_there refuse link_metric_of next_hello
act-both b n s (Receive mac frame buf) c r₁ r₂ run lan e near h₁ h₂ =
    receive-both b n s mac frame buf c r₁ r₂ near lan (eqb-false _ _ e) h₁ h₂
act-both b n s Release c r₁ r₂ run lan e near h₁ h₂ = record { room = but-for-sweep planned_state near; answer = refl; reply = refl }
act-both b n s Clear c r₁ r₂ run lan e near h₁ h₂ = record { room = but-for-refl _ _; answer = refl; reply = refl }
act-both b n s (CsnpComplete level) c r₁ r₂ run lan e near h₁ h₂ =
    rw (csnp-refused n s level c r₁ run, csnp-refused n s level c r₂ run) (record { room = near; answer = refl; reply = refl })
act-both b n s (LookUp k) c r₁ r₂ run lan e near h₁ h₂ = look-both b s k c r₁ r₂ lan near
act-both b n s LinkMetric c r₁ r₂ run lan e near h₁ h₂ = record { room = near; answer = cc; reply = refl }
act-both b n s (NextHello level) c r₁ r₂ run lan e near h₁ h₂ =
    by-test (has_level s.levels level) (λ q. rw q (record { room = near; answer = refl; reply = refl }))
    (λ q. rw q (record { room = near; answer = refl; reply = refl }))

-- ---- the common part, in the mode Running

module _ (n : ℕ) (s : Circuit) (c : Common) (r : Room) (run : c.timers.mode ≡ Running) where
  reacted-common : (h : Hello) (k : Key) (buf : List ℕ) (a : Reaction) → (reacted n s h k buf a c r).common ≡ c
  unfolding reacted refuse accepted
  reacted-common h k buf (Err x) = refl
  reacted-common h k buf (Ok (after, reply, line)) =
      ap (λ (t : Timers). with_timers t c) (heard-running c.timers run c.lengths c.clock (t1_of n s h) _ (said_of c s h)).0

  read-common : (mac : ℕ) (buf : List ℕ) (d : Result Hello Refusal) → (read_in n s mac buf d c r).common ≡ c
  unfolding read_in checked decided_in refuse
  read-common mac buf (Err x) = refl
  read-common mac buf (Ok h) =
      by-test (wrong_source s.levels c.system h) (λ e. rw e) (λ e. rw e (reacted-common h _ buf _))

  pub act-common : (l : Local) → (act n s l c r).common ≡ c
  unfolding act receive refuse look_up link_metric_of next_hello
  act-common (Receive mac frame buf) =
      by-test (is_short buf) (λ e. rw e) (λ e. rw e (read-common mac buf (hello_read s.kind s.mac frame)))
  act-common Release = refl
  act-common Clear = refl
  act-common (CsnpComplete level) = rw (csnp-refused n s level c r run)
  act-common (LookUp k) = by-test (asks_level s.kind s.levels k.level) (λ e. rw e) (λ e. rw e)
  act-common LinkMetric = refl
  act-common (NextHello level) = by-test (has_level s.levels level) (λ e. rw e) (λ e. rw e)
