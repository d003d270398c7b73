-- One frame's effect on a record: its expiry stays from the clock to 65,535 s after it, a reply tells the time to it, no record goes, and none is marked
-- after a frame without the Restart TLV.
use Prim.Native.Nat.{ℕ, ◌+◌, ◌≤◌}
use native.Mathlib.Omega.{arith}
use mathlib.Core.Path.{◌≡◌, refl}
use mathlib.Core.Bool.{Bool, false}
use mathlib.Core.Logic.{inl}
use Rattle.basics.specs.Octets.{has_bits}
use Rattle.basics.proofs.BoolLaws.{by-test}
use Rattle.restart_tlv.specs.declared.reader.RestartTlv.{RestartTlv}
use Rattle.restart_tlv.specs.declared.reader.RestartTlv.TheVariants.{Absent as NoTlv, Ignored, Present as SomeTlv}
use Rattle.hello.specs.declared.read.Hello.{Hello}
use Rattle.hello.specs.declared.read.Link.{Link}
use Rattle.hello.specs.declared.read.Link.TheVariants.{Lan, P2p}
use Rattle.basics.specs.declared.refusal.Refusal.{Refusal}
use Rattle.hello.specs.declared.three_way.ThreeWayState.{ThreeWayState as Said}
use Rattle.hello.specs.declared.three_way.ThreeWayState.TheVariants.{Up as SaidUp, Initializing, Down}
use Rattle.adjacency.specs.Record.{phase_of, mark_of, suppressed_of, expiry_of}
use Rattle.adjacency.specs.Step.{wrong_neighbor, wrong_circuit, p2p_step, as_init, link_step, kept_up, step_of}
use Rattle.adjacency.specs.Marks.{last_line, line_of, expiry_by, mark_by, suppressed_by, reply_by}
use Rattle.adjacency.specs.React.{has_tlv, times_of, state_as, data_by, remaining_in, accepted_by, line_in, react_of}
use Rattle.adjacency.specs.declared.marks.Line.{Line}
use Rattle.adjacency.specs.declared.marks.Line.TheVariants.{One, Two, Three, Four, Five}
use Rattle.adjacency.specs.declared.marks.Times.{Times}
use Rattle.adjacency.specs.declared.record.Data.{Data}
use Rattle.adjacency.specs.declared.record.Mark.{Mark}
use Rattle.adjacency.specs.declared.record.Mark.TheVariants.{Clear, Restart, Planned}
use Rattle.adjacency.specs.declared.record.Phase.{Phase}
use Rattle.adjacency.specs.declared.record.Phase.TheVariants.{Gone, Init as InitPhase, Up as UpPhase}
use Rattle.adjacency.specs.declared.record.State.TheVariants.{Init, Up}
use Rattle.adjacency.specs.declared.step.Here.{Here}
use Rattle.adjacency.proofs.ClearLaws.{clear-line}
use Rattle.invariants.specs.Invariants.{Tells, Span, Unmarked}
use Rattle.std.specs.Prelude.{Option, Some, None, Ok, Err}
use Rattle.adjacency.specs.React.{Reaction}
use Rattle.restart_tlv.specs.declared.writer.Ack.{Ack}
use Rattle.adjacency.specs.declared.record.State.{State}

-- the expiry of the record, if one stands
abbrev pub SpanIn : ℕ → Option State → Type 0
SpanIn clock None = Unit {0}
SpanIn clock (Some s) = Span clock (expiry_of s)

-- what a frame and the settings may add to the clock
pub record Short (t : Times) : Type 0 where
  pub hold : t.hold ≤ 65535
  pub configured : t.configured ≤ 65535
  pub remaining : t.remaining ≤ 65535

-- ---- the expiry

-- where a line lets the expiry stay, the record is marked
abbrev pub Stays : Times → Mark → Type 0
Stays t Clear = Unit {0}
Stays t Restart = Span t.clock t.expiry
Stays t Planned = Span t.clock t.expiry

from-clock : (clock n : ℕ) → n ≤ 65535 → Span clock (clock + n)
from-clock clock n h = record { low = omega arith; high = omega arith }

expiry-span : (line : Line) (t : Times) (m : Mark) → Short t → Stays t m → Span t.clock (expiry_by line t m)
expiry-span One t Clear h k = from-clock t.clock t.hold h.hold
expiry-span One t Restart h k = k
expiry-span One t Planned h k = from-clock t.clock t.configured h.configured
expiry-span Two t m h k = from-clock t.clock t.hold h.hold
expiry-span Three t Clear h k = from-clock t.clock t.remaining h.remaining
expiry-span Three t Restart h k = from-clock t.clock t.remaining h.remaining
expiry-span Three t Planned h k = k
expiry-span Four t m h k = from-clock t.clock t.configured h.configured
expiry-span Five t m h k = from-clock t.clock t.hold h.hold

stays-marked : (here : Here) (h : Hello) (d : Data) (m : Mark) → Span here.clock d.expiry → Stays (times_of here h (Some (Up d m))) m
stays-marked here h d Clear k = tt
stays-marked here h d Restart k = k
stays-marked here h d Planned k = k

stays : (here : Here) (h : Hello) (before : Option State) → SpanIn here.clock before → Stays (times_of here h before) (mark_of before)
stays here h None k = tt
stays here h (Some (Init d)) k = tt
stays here h (Some (Up d m)) k = stays-marked here h d m k

state-span : (clock : ℕ) (p : Phase) (d : Data) (m : Mark) → Span clock d.expiry → SpanIn clock (state_as p d m)
state-span clock Gone d m k = tt
state-span clock InitPhase d m k = k
state-span clock UpPhase d m k = k

-- ---- the reply

abbrev pub Replies : ℕ → Option State → Option (Ack × ℕ) → Type 0
Replies clock after None = Unit {0}
Replies clock after (Some (ack, time)) = (time ≤ 65535) × Tells after clock time

remaining-tells : (clock : ℕ) (p : Phase) (d : Data) (m : Mark) → Span clock d.expiry
    → (remaining_in p d.expiry clock ≤ 65535) × Tells (state_as p d m) clock (remaining_in p d.expiry clock)
remaining-tells clock Gone d m k = (omega arith, refl)
remaining-tells clock InitPhase d m k = (omega arith, omega arith)
remaining-tells clock UpPhase d m k = (omega arith, omega arith)

reply-tells : (line : Line) (clock time : ℕ) (after : Option State) → (time ≤ 65535) × Tells after clock time
    → Replies clock after (reply_by line time)
reply-tells One clock time after k = k
reply-tells Two clock time after k = k
reply-tells Three clock time after k = k
reply-tells Four clock time after k = tt
reply-tells Five clock time after k = tt

-- ---- no Restart TLV, no mark

abbrev pub UnmarkedIn : Option State → Type 0
UnmarkedIn None = Unit {0}
UnmarkedIn (Some s) = Unmarked s

lacks : (r : RestartTlv) → has_tlv r ≡ false → r ≡ NoTlv
lacks NoTlv e = refl
lacks Ignored e = cc
lacks (SomeTlv f time n) e = cc

bare-suppressed : (r : RestartTlv) (was : Bool) → has_tlv r ≡ false → suppressed_by r was ≡ false
unfolding has_bits
bare-suppressed r was e = rw (lacks r e) refl

last-clear : (mark : Mark) → mark_by (last_line mark) mark ≡ Clear
last-clear Clear = refl
last-clear Restart = refl
last-clear Planned = refl

bare-clear : (r : RestartTlv) (mark : Mark) (before after : Phase) → has_tlv r ≡ false → mark_by (line_of r mark before after) mark ≡ Clear
bare-clear r mark before after e = rw (clear-line r mark before after (inl (lacks r e))) (last-clear mark)

state-unmarked : (p : Phase) (d : Data) (m : Mark) → (d.last.tlv ≡ false → (d.suppressed ≡ false) × (m ≡ Clear)) → UnmarkedIn (state_as p d m)
state-unmarked Gone d m f = tt
state-unmarked InitPhase d m f = λ e. (f e).0
state-unmarked UpPhase d m f = f

-- ---- "Up gives no record": then none stood before

p2p-gone : (p : Phase) (said : Said) → p2p_step p said ≡ Gone → p ≡ Gone
p2p-gone Gone said e = refl
p2p-gone InitPhase SaidUp e = cc
p2p-gone InitPhase Initializing e = cc
p2p-gone InitPhase Down e = cc
p2p-gone UpPhase SaidUp e = cc
p2p-gone UpPhase Initializing e = cc
p2p-gone UpPhase Down e = cc

init-gone : (p : Phase) → as_init p ≡ Gone → p ≡ Gone
init-gone Gone e = refl
init-gone InitPhase e = e
init-gone UpPhase e = e

link-gone : (here : Here) (p : Phase) (l : Link) → link_step here p l ≡ Gone → p ≡ Gone
unfolding link_step
link-gone here p (Lan level priority listed) e = by-test listed (λ a. cc) (λ a. cc)
link-gone here p (P2p t) e =
    by-test here.restarting
    (λ a. by-test (wrong_circuit here.circuit t.ids) (λ b. cc) (λ b. init-gone p (p2p-gone (as_init p) t.state (rw (a, b) at e))))
    (λ a. p2p-gone p t.state (rw a at e))

step_gone : (here : Here) (p : Phase) (h : Hello) → step_of here p h ≡ Gone → p ≡ Gone
unfolding step_of
step_gone here p h e =
    by-test (kept_up h.restart p) (λ a. cc) (λ a. link-gone here p h.link (rw a at e))

state-gone : (p : Phase) (d : Data) (m : Mark) → state_as p d m ≡ None → p ≡ Gone
state-gone Gone d m e = refl
state-gone InitPhase d m e = cc
state-gone UpPhase d m e = cc

phase-gone : (a : Option State) → phase_of a ≡ Gone → a ≡ None
phase-gone None e = refl
phase-gone (Some (Init d)) e = cc
phase-gone (Some (Up d m)) e = cc

-- ---- the whole effect

pub data Fair (clock : ℕ) (before : Option State) : Reaction → Type 0 where
  refused : {x : Refusal} → Fair clock before (Err x)
  accepted : {after : Option State} {reply : Option (Ack × ℕ)} {line : Line} → SpanIn clock after → UnmarkedIn after → Replies clock after reply
      → (after ≡ None → before ≡ None) → Fair clock before (Ok (after, reply, line))

module _ (here : Here) (h : Hello) (before : Option State) (short : Short (times_of here h before)) (span : SpanIn here.clock before) where
  accepted-fair : (line : Line) (after : Phase) → (has_tlv h.restart ≡ false → mark_by line (mark_of before) ≡ Clear) → (after ≡ Gone → before ≡ None)
      → Fair here.clock before (accepted_by line after here h before)
  unfolding accepted_by data_by
  accepted-fair line after clear gone =
      let d = data_by line here h before in
      let m = mark_by line (mark_of before) in
      let k : Span here.clock d.expiry = expiry-span line (times_of here h before) (mark_of before) short (stays here h before span) in
      accepted (state-span here.clock after d m k)
      (state-unmarked after d m (λ e. (bare-suppressed h.restart (suppressed_of before) e, clear e)))
      (reply-tells line here.clock (remaining_in after d.expiry here.clock) (state_as after d m)
      (remaining-tells here.clock after d m k))
      (λ e. gone (state-gone after d m e))

  pub react-fair : Fair here.clock before (react_of here h before)
  unfolding react_of line_in
  react-fair =
      by-test (wrong_neighbor here (phase_of before) h h.link) (λ e. rw e refused)
      (λ e. rw e
      (accepted-fair (line_in here h before) (step_of here (phase_of before) h)
      (bare-clear h.restart (mark_of before) (phase_of before) (step_of here (phase_of before) h))
      (λ a. phase-gone before (step_gone here (phase_of before) h a))))
