-- A call that was made, for the code: by the promise of the function that makes it, and where it only asks, by what its step leaves.
use Prim.Native.Nat.{ℕ}
use mathlib.Core.Path.{◌≡◌, refl, ap, ◌∙◌}
use mathlib.Core.Bool.{Bool, true, false, cond}
use mathlib.Core.List.{List, []}
use Rattle.basics.specs.Levels.{has_level}
use Rattle.basics.specs.declared.refusal.Refusal.{Refusal}
use Rattle.basics.specs.declared.refusal.Refusal.TheVariants.{NoCircuit}
use Rattle.adjacency.specs.Keys.{key_on}
use Rattle.room.specs.Table.{find}
use Rattle.adjacency.specs.declared.record.Key.{Key}
use Rattle.control.specs.Common.{Common, circuit_of}
use Rattle.model.specs.Answers.{Answer, Fact, Looked, HelloFlags, record_answer, received_of}
use Rattle.model.specs.Gateway.{Gateway, Room, room_of}
use Rattle.model.specs.Receive.{Acted, refuse}
use Rattle.model.specs.Step.{Call as CallMade, LookUp, LinkMetric, NextHello, Receive, Waiting, At, Over, told, asks_level, flags_at, look_up, link_metric_of, next_hello, act, lift, on, at, judge, carry, step}
use Rattle.model.proofs.FrameLaws.{is_hand, frames-kept}
use Rattle.own_words.specs.Words.{gateway_of}
use Rattle.gateway.specs.Whole.{whole_of, Does}
use Rattle.gateway.proofs.WholeLaws.{own-does}
use Rattle.own_words.proofs.WordLaws.{same-room}
use Rattle.reasons.specs.Holds.{is_receive}
use Rattle.reasons.specs.Why.{gone_by, call_of, reason_of}
use Rattle.reasons.specs.declared.why.Call.{Call}
use Rattle.reasons.specs.declared.why.Call.TheVariants.{Receive as ReceiveOn}
use Rattle.reasons.specs.declared.why.Reason.{Reason}
use Rattle.isis_gr_why.specs.Explains.{replied}
use Rattle.isis_gr_why.specs.Told.{MadeOn}
use Rattle.isis_gr_why.specs.declared.made.Made.TheVariants.{Frame, Other}
use Rattle.std.specs.Prelude.{Option, Some, None, Result}
use Rattle.settings.specs.declared.circuit.Circuit.{Circuit}
use Rattle.model.specs.declared.answers.Orders.{Orders}

-- what a call of document 01 leaves of the own words, and of the frames
module _ {c : CallMade} {a : Answer} {ws ws' b' : List ℕ} (plain : is_hand c ≡ false) (d : Does c a ws ws' b') where
  pub own-next : gateway_of ws' ≡ (step (gateway_of ws) c).next
  own-next = (own-does plain d).next

  pub same-frames : (fs : List ℕ) → (whole_of ws' fs).unfinished ≡ (whole_of ws fs).unfinished
  same-frames fs = ap (λ (g : Gateway). g.unfinished) (d fs).next ∙ frames-kept (whole_of ws fs) c plain

module _ (call : Call) (mac : ℕ) (frame b ws ws' b' : List ℕ) where
  pub made-frame : (n : ℕ) (a : Result Orders Refusal) → call ≡ ReceiveOn n → Does (At n (Receive mac frame b)) (received_of a) ws ws' b' → MadeOn call mac frame b ws ws' b' (Frame n a)
  made-frame n a e d =
      let m = own-does refl d in
      rw e (record { makes = record { next = λ k. m.next; frames = same-frames refl d; reply = λ k. m.reply }; tells = λ k. (refl, m.answer) })

-- a call that writes no reply
module _ (mac : ℕ) (frame b ws ws' : List ℕ) (w : Reason) where
  pub made_other : (call given : Call) → call ≡ given → ((k : Key) → gateway_of ws' ≡ (step (gateway_of ws) (call_of given mac frame b k)).next)
      → ((fs : List ℕ) → (whole_of ws' fs).unfinished ≡ (whole_of ws fs).unfinished)
      → ((k : Key) → b ≡ replied given (step (gateway_of ws) (call_of given mac frame b k)) b) → ((k : Key) → gone_by (call_of given mac frame b k) ≡ reason_of w)
      → ((k : Key) → is_receive (call_of given mac frame b k) ≡ false) → MadeOn call mac frame b ws ws' b (Other w)
  made_other call given e next frames reply gone other =
      rw e (record { makes = record { next = next; frames = frames; reply = reply }; tells = λ k. (gone k, other k) })

-- ---- calls that only ask

-- a call that leaves the common part and its room leaves the gateway
module _ (g : Gateway) (n : ℕ) where
  lift-same : (f : Common → Room → Acted) → (f g.common (room_of g n)).common ≡ g.common → (f g.common (room_of g n)).room ≡ room_of g n
      → g ≡ (lift g n f).next
  unfolding lift
  lift-same f c r = rw (c, r, same-room g.rooms n) refl

  -- told, or refused
  either_same : (f : Common → Room → Acted) (t : Bool) (x : Fact) (y : Refusal) (c : Common) (r : Room)
      → f c r ≡ cond t (told x c r) (refuse [] y c r) → ((f c r).common ≡ c) × ((f c r).room ≡ r)
  unfolding refuse
  either_same f true x y c r e = (ap (λ (a : Acted). a.common) e, ap (λ (a : Acted). a.room) e)
  either_same f false x y c r e = (ap (λ (a : Acted). a.common) e, ap (λ (a : Acted). a.room) e)

  asked-same : (f : Common → Room → Acted) (t : Bool) (x : Fact) (y : Refusal) → f g.common (room_of g n) ≡ cond t (told x g.common (room_of g n)) (refuse [] y g.common (room_of g n))
      → g ≡ (lift g n f).next
  asked-same f t x y e = let s = either_same f t x y g.common (room_of g n) e in lift-same f s.0 s.1

  pub looked-same : (k : Key) → g ≡ (step g (At n (LookUp k))).next
  unfolding step at on act look_up
  looked-same k = go (circuit_of g.common n)
    where
      go : (q : Option Circuit) → g ≡ (on g n (LookUp k) q).next
      go None = refl
      go (Some s) =
          asked-same (act n s (LookUp k)) (asks_level s.kind s.levels k.level) (Looked (record_answer (find (key_on s.kind k) (room_of g n).slots))) NoCircuit
          refl

  pub measured-same : g ≡ (step g (At n LinkMetric)).next
  unfolding step at on act link_metric_of
  measured-same = go (circuit_of g.common n)
    where
      go : (q : Option Circuit) → g ≡ (on g n LinkMetric q).next
      go None = refl
      go (Some s) = lift-same (act n s LinkMetric) refl refl

  pub flagged-same : (level : ℕ) → g ≡ (step g (At n (NextHello level))).next
  unfolding step at on act next_hello
  flagged-same level = go (circuit_of g.common n)
    where
      go : (q : Option Circuit) → g ≡ (on g n (NextHello level) q).next
      go None = refl
      go (Some s) = asked-same (act n s (NextHello level)) (has_level s.levels level) (HelloFlags (flags_at n s level g.common.timers)) NoCircuit refl

pub waiting-same : (g : Gateway) → g ≡ (step g (Over Waiting)).next
unfolding step judge carry
waiting-same g = refl
