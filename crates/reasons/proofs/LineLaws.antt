-- The line of "Marks and holding time" that fits an accepted frame is the frame's own, and is told by the reply and the record before. For FrameLaws, and
-- for the code's proofs, which have the reply.
use Prim.Native.Nat.{ℕ}
use native.Mathlib.Omega.{arith}
use mathlib.Core.Path.{◌≡◌, refl, ap, sym, ◌∙◌}
use mathlib.Core.Bool.{Bool, true, false, cond}
use Rattle.basics.specs.Octets.{has_bits}
use Rattle.basics.specs.declared.refusal.Refusal.TheVariants.{WrongNeighbor}
use Rattle.basics.proofs.BoolLaws.{by-test}
use Rattle.restart_tlv.specs.Flags.{RR}
use Rattle.restart_tlv.specs.declared.writer.Ack.TheVariants.{Restart as RestartAck, Planned as PlannedAck}
use Rattle.hello.specs.declared.read.Hello.{Hello}
use Rattle.adjacency.specs.Marks.{last_line, planned, line_by, mark_by, flags_in, line_of, reply_by}
use Rattle.adjacency.specs.React.{data_by, state_as, remaining_in, accepted_by, line_in, react_of}
use Rattle.adjacency.specs.Record.{phase_of, is_up, mark_of}
use Rattle.adjacency.specs.Step.{wrong_neighbor, step_of}
use Rattle.adjacency.specs.declared.marks.Line.{Line}
use Rattle.adjacency.specs.declared.marks.Line.TheVariants.{One, Two, Three}
use Rattle.adjacency.specs.declared.record.Data.{Data}
use Rattle.adjacency.specs.declared.record.Mark.{Mark}
use Rattle.adjacency.specs.declared.record.Mark.TheVariants.{Clear, Restart, Planned}
use Rattle.adjacency.specs.declared.record.Phase.{Phase}
use Rattle.adjacency.specs.declared.step.Here.{Here}
use Rattle.std.specs.Prelude.{Option, Some, None, Ok, Err}
use Rattle.restart_tlv.specs.declared.writer.Ack.{Ack}
use Rattle.adjacency.specs.declared.record.State.{State}

-- ---- the first line that fits, by the tests of RR, of the record UP before, and of PR

abbrev picked : Bool → Bool → Bool → Mark → Line
picked rr up pr mark = cond rr (cond up One Two) (cond pr Three (last_line mark))

-- a reply has one of the two
apart : (t u : ℕ) → ◌≡◌ {A = Option (Ack × ℕ)} (Some (PlannedAck, t)) (Some (RestartAck, u)) → ⊥
apart t u e =
    let p : ◌≡◌ {A = Ack × ℕ} (PlannedAck, t) (RestartAck, u) = cc in
    let q : PlannedAck ≡ RestartAck = ap (λ (x : Ack × ℕ). x.0) p in
    let z : ◌≡◌ {A = ℕ} 0 1 = cc in omega arith

restart-picked : (rr up pr : Bool) (mark : Mark) (time u : ℕ) → reply_by (picked rr up pr mark) time ≡ Some (RestartAck, u)
    → picked rr up pr mark ≡ cond up One Two
restart-picked true up pr mark time u e = refl
restart-picked false up true mark time u e = absurd (apart time u e)
restart-picked false up false Clear time u e = cc
restart-picked false up false Restart time u e = cc
restart-picked false up false Planned time u e = cc

planned-picked : (rr up pr : Bool) (mark : Mark) (time u : ℕ) → reply_by (picked rr up pr mark) time ≡ Some (PlannedAck, u) → picked rr up pr mark ≡ Three
planned-picked true true pr mark time u e = absurd (apart u time (sym e))
planned-picked true false pr mark time u e = absurd (apart u time (sym e))
planned-picked false up true mark time u e = refl
planned-picked false up false Clear time u e = cc
planned-picked false up false Restart time u e = cc
planned-picked false up false Planned time u e = cc

silent-picked : (rr up pr : Bool) (mark : Mark) (time : ℕ) → reply_by (picked rr up pr mark) time ≡ None → picked rr up pr mark ≡ last_line mark
silent-picked true true pr mark time e = cc
silent-picked true false pr mark time e = cc
silent-picked false up true mark time e = cc
silent-picked false up false mark time e = refl

-- ---- an accepted frame

module _ (here : Here) (h : Hello) (before after : Option State) (reply : Option (Ack × ℕ)) (line : Line)
    (e : react_of here h before ≡ Ok (after, reply, line)) where
  abbrev left : Phase
  left = step_of here (phase_of before) h

  accepts : accepted_by (line_in here h before) left here h before ≡ Ok (after, reply, line)
  unfolding react_of
  accepts =
      by-test (wrong_neighbor here (phase_of before) h h.link)
      (λ a. absurd (let w : Err WrongNeighbor ≡ Ok (after, reply, line) = rw a at e in let z : ◌≡◌ {A = ℕ} 0 1 = cc in omega arith)) (λ a. rw a at e)

  abbrev kept : Data
  kept = data_by (line_in here h before) here h before

  abbrev Parts : Type 0
  Parts = Option State × Option (Ack × ℕ) × Line

  parts : ◌≡◌ {A = Parts}
      (state_as left kept (mark_by (line_in here h before) (mark_of before)), reply_by (line_in here h before) (remaining_in left kept.expiry here.clock), line_in here h before)
      (after, reply, line)
  unfolding accepted_by
  parts = cc accepts

  pub line-fits : line ≡ line_in here h before
  line-fits = ap (λ (x : Parts). x.2) (sym parts)

  -- RR, PR with the record UP before and after, and the reply's Remaining Time
  abbrev rr : Bool
  rr = has_bits (flags_in h.restart).bits RR

  abbrev up : Bool
  up = is_up (phase_of before)

  abbrev pr : Bool
  pr = planned (flags_in h.restart) (phase_of before) left

  abbrev remaining : ℕ
  remaining = remaining_in left kept.expiry here.clock

  fits-picked : line ≡ picked rr up pr (mark_of before)
  unfolding line_in line_of line_by
  fits-picked = line-fits

  replies : reply_by (picked rr up pr (mark_of before)) remaining ≡ reply
  unfolding line_in line_of line_by
  replies = ap (λ (x : Parts). x.1) parts

  -- line 1 or 2, line 3, and line 4 or 5
  pub line-restart : (time : ℕ) → reply ≡ Some (RestartAck, time) → line ≡ cond (is_up (phase_of before)) One Two
  line-restart time r = fits-picked ∙ restart-picked rr up pr (mark_of before) remaining time (replies ∙ r)

  pub line-planned : (time : ℕ) → reply ≡ Some (PlannedAck, time) → line ≡ Three
  line-planned time r = fits-picked ∙ planned-picked rr up pr (mark_of before) remaining time (replies ∙ r)

  pub line-silent : reply ≡ None → line ≡ last_line (mark_of before)
  line-silent r = fits-picked ∙ silent-picked rr up pr (mark_of before) remaining (replies ∙ r)
