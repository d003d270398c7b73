-- One frame's whole effect on the one record with its key (document 01, "The state step" and "Marks and holding time"), in this order: step,
-- last-frame data, lines 1 to 5, loss of Restart and Planned where the record is not UP, SA, reply.
use Rattle.std.specs.Prelude.{ℕ, ◌≡◌, Bool, true, false, cond, Option, Some, None, Result, Ok, Err}
use Rattle.restart_tlv.specs.declared.reader.RestartTlv.{RestartTlv}
use Rattle.restart_tlv.specs.declared.reader.RestartTlv.TheVariants.{Absent as NoTlv, Ignored, Present as SomeTlv}
use Rattle.hello.specs.declared.read.Hello.{Hello}
use Rattle.hello.specs.declared.read.Link.{Link}
use Rattle.hello.specs.declared.read.Link.TheVariants.{Lan, P2p}
use Rattle.basics.specs.declared.refusal.Refusal.{Refusal}
use Rattle.basics.specs.declared.refusal.Refusal.TheVariants.{WrongNeighbor}
use Rattle.restart_tlv.specs.declared.writer.Ack.{Ack}
use Rattle.adjacency.specs.Record.{phase_of, mark_of, suppressed_of, expiry_of}
use Rattle.adjacency.specs.Step.{wrong_neighbor, step_of}
use Rattle.adjacency.specs.Marks.{time_in, line_of, expiry_by, mark_by, suppressed_by, remaining_of, reply_by}
use Rattle.adjacency.specs.declared.record.Mark.{Mark}
use Rattle.adjacency.specs.declared.record.Last.{Last}
use Rattle.adjacency.specs.declared.record.Data.{Data}
use Rattle.adjacency.specs.declared.record.State.TheVariants.{Init, Up}
use Rattle.adjacency.specs.declared.record.Phase.{Phase}
use Rattle.adjacency.specs.declared.record.Phase.TheVariants.{Gone, Init as InitPhase, Up as UpPhase}
use Rattle.adjacency.specs.declared.step.Here.{Here}
use Rattle.adjacency.specs.declared.marks.Line.{Line}
use Rattle.adjacency.specs.declared.marks.Road.{Road}
use Rattle.adjacency.specs.declared.marks.Times.{Times}
use Rattle.adjacency.specs.declared.record.State.{State}

-- of its last accepted frame the priority (a P2P frame has none), whether it had a Restart TLV, and the reverse metric if exactly one came
abbrev pub priority_of : Link → ℕ
priority_of (Lan level priority listed) = priority
priority_of (P2p t) = 0

abbrev pub has_tlv : RestartTlv → Bool
has_tlv NoTlv = false
has_tlv Ignored = true
has_tlv (SomeTlv f time n) = true

abbrev pub last_of : Hello → Last
last_of h = record { priority = priority_of h.link; tlv = has_tlv h.restart; reverse = h.reverse }

-- the expiry of no record is 0, and no line keeps it
abbrev pub expiry_in : Option State → ℕ
expiry_in None = 0
expiry_in (Some s) = expiry_of s

abbrev pub times_of : Here → Hello → Option State → Times
times_of here h before =
    record {
      clock = here.clock;
      hold = h.hold;
      configured = here.hold;
      remaining = time_in h.restart;
      expiry = expiry_in before;
    }

-- a record not UP after any accepted frame has neither Restart nor Planned
abbrev pub state_as : Phase → Data → Mark → Option State
state_as Gone d mark = None
state_as InitPhase d mark = Some (Init d)
state_as UpPhase d mark = Some (Up d mark)

unfoldable pub data_by : Line → Here → Hello → Option State → Data
data_by line here h before =
    record {
      expiry = expiry_by line (times_of here h before) (mark_of before);
      suppressed = suppressed_by h.restart (suppressed_of before);
      last = last_of h;
    }

-- the reply's Remaining Time: 0 if no record stands
abbrev pub remaining_in : Phase → ℕ → ℕ → ℕ
remaining_in Gone expiry clock = 0
remaining_in InitPhase expiry clock = remaining_of expiry clock
remaining_in UpPhase expiry clock = remaining_of expiry clock

-- refused (8), or the record afterwards, the reply, and the line that fitted
abbrev pub Reaction : Type 0
Reaction = Result (Option State × Option (Ack × ℕ) × Line) Refusal

unfoldable pub accepted_by : Line → Phase → Here → Hello → Option State → Reaction
accepted_by line after here h before =
    Ok (state_as after (data_by line here h before) (mark_by line (mark_of before)), reply_by line (remaining_in after (data_by line here h before).expiry here.clock), line)

unfoldable pub line_in : Here → Hello → Option State → Line
line_in here h before = line_of h.restart (mark_of before) (phase_of before) (step_of here (phase_of before) h)

-- refusal 8, or the effect
unfoldable pub react_of : Here → Hello → Option State → Reaction
react_of here h before =
    cond (wrong_neighbor here (phase_of before) h h.link) (Err WrongNeighbor)
    (accepted_by (line_in here h before) (step_of here (phase_of before) h) here h before)

-- what the code says of a road: its time and its mark Suppressed are the frame's
abbrev pub OwnRoad : Road → Hello → Option State → Type 0
OwnRoad road h before = (road.time ≡ time_in h.restart) × (road.suppressed ≡ suppressed_by h.restart (suppressed_of before))
