-- What is known of the call once it was made, for the code: its answer, if it is a receive, and else why a record may be gone after it; and the line
-- that fitted a frame, told by its reply.
use Rattle.std.specs.Prelude.{ℕ, ◌≡◌, false, cond, List, eqb, Option}
use Rattle.restart_tlv.specs.Flags.{RA, PA}
use Rattle.adjacency.specs.Marks.{last_line}
use Rattle.adjacency.specs.Record.{phase_of, mark_of, is_up}
use Rattle.adjacency.specs.declared.marks.Line.{Line}
use Rattle.adjacency.specs.declared.marks.Line.TheVariants.{One, Two, Three}
use Rattle.adjacency.specs.declared.record.Key.{Key}
use Rattle.model.specs.Answers.{Answer, received_of}
use Rattle.model.specs.Step.{Call, At, Receive, step}
use Rattle.own_words.specs.Words.{gateway_of}
use Rattle.reasons.specs.Holds.{is_receive}
use Rattle.reasons.specs.Why.{gone_by, call_of, reason_of}
use Rattle.reasons.specs.declared.why.Call.{Call as CallGiven}
use Rattle.isis_gr_why.specs.Explains.{Makes}
use Rattle.isis_gr_why.specs.declared.made.Made.{Made}
use Rattle.isis_gr_why.specs.declared.made.Made.TheVariants.{Frame, Other}
use Rattle.adjacency.specs.declared.record.State.{State}

-- what the code holds of the call c, whose answer is x
abbrev pub Tells : Made → ℕ → List ℕ → List ℕ → Call → Answer → Type 0
Tells (Frame n a) mac frame b c x = (c ≡ At n (Receive mac frame b)) × (received_of a ≡ x)
Tells (Other w) mac frame b c x = (gone_by c ≡ reason_of w) × (is_receive c ≡ false)

-- .. and of the second memory, where the call was made
pub record MadeOn (call : CallGiven) (mac : ℕ) (frame b ws ws' b' : List ℕ) (r : Made) : Type 0 where
  pub makes : Makes call mac frame b ws ws' b'
  pub tells : (k : Key) → Tells r mac frame b (call_of call mac frame b k) (step (gateway_of ws) (call_of call mac frame b k)).answer

-- The line that fitted an accepted frame, by the flags of its reply and the record that stood: line 1 or 2 where it is RA, line 3 where it is PA, and
-- else 4 or 5.
abbrev pub line_told : ℕ → Option State → Line
line_told flags stood = cond (eqb flags RA) (cond (is_up (phase_of stood)) One Two) (cond (eqb flags PA) Three (last_line (mark_of stood)))
