-- What a call is to the timers (document 01, "Timers while Restarting"; document 02, W-201, W-202 and W-205): one event. The timers after a call are those
-- that its event leaves (proofs/TimerEventLaws), so that a claim about the timers over lists of calls is one about lists of events.
use Rattle.std.specs.Prelude.{ℕ, ◌-◌, Bool, false, cond, not, ◌&&◌, eqb, List, [], ◌∷◌, map, Option, Some, None, Result, Ok, Err}
use Rattle.basics.specs.Levels.{only_level}
use Rattle.basics.specs.declared.levels.Levels.{Levels}
use Rattle.settings.specs.Serving.{t1_place}
use Rattle.hello.specs.Hello.{hello_read}
use Rattle.settings.specs.declared.lengths.Lengths.{Lengths}
use Rattle.settings.specs.declared.circuit.Circuit.{Circuit}
use Rattle.timer_parts.specs.declared.heard.Heard.{Heard}
use Rattle.timers.specs.Timers.{Timers, ticked, heard, csnp_noticed, database_noticed}
use Rattle.control.specs.Common.{Common, circuit_of}
use Rattle.adjacency.specs.declared.record.Phase.TheVariants.{Up}
use Rattle.model.specs.Numbers.{phase_no}
use Rattle.model.specs.Answers.{Answer, ChangeAnswer, Refused, Received, Ticked, Told}
use Rattle.chunks.specs.Chunks.{Unfinished, NoFrame, Frame}
use Rattle.model.specs.Gateway.{Gateway, unfinished_on}
use Rattle.model.specs.Receive.{said_of, t1_of}
use Rattle.model.specs.Step.{Local, Receive, Release, Clear, CsnpComplete, LookUp, LinkMetric, NextHello, Global, Tick, DatabaseComplete, Waiting, Piece, Begin, Chunk, End, Call, At, Over, Hand, none_of, step}
use Rattle.model.specs.Trace.{Turn}
use Rattle.hello.specs.declared.read.Hello.{Hello as HelloRead}
use Rattle.basics.specs.declared.refusal.Refusal.{Refusal}

-- A hello: the clock at its arrival, the place of its T1, whether its record became UP, and what the frame says. A CSNP notice: the place of its T1,
-- and the notice's level. Places count from 0.
pub data TimerEvent : Type 0 where
  Nothing : TimerEvent
  Hello : Lengths → (clock place : ℕ) → (rose : Bool) → Heard → TimerEvent
  Clock : Lengths → (clock : ℕ) → TimerEvent
  CsnpSet : (place : ℕ) (notice : Levels) → TimerEvent
  Database : (notice : Levels) → TimerEvent

-- the timers that an event leaves
unfoldable pub moved : TimerEvent → Timers → Timers
moved Nothing t = t
moved (Hello s clock i rose d) t = heard s clock i rose d t
moved (Clock s clock) t = ticked s clock t
moved (CsnpSet i n) t = csnp_noticed i n t
moved (Database n) t = database_noticed n t

unfoldable pub moved_all : List TimerEvent → Timers → Timers
moved_all [] t = t
moved_all (e ∷ es) t = moved_all es (moved e t)

-- ---- of a call

unfoldable pub heard_from : ℕ → Circuit → Common → Bool → Result HelloRead Refusal → TimerEvent
heard_from n s c rose (Err x) = Nothing
heard_from n s c rose (Ok h) = Hello c.lengths c.clock (t1_of n s h) rose (said_of c s h)

-- what it is if it is not refused; rose: a frame's record became UP
unfoldable pub offered_on : ℕ → Common → Bool → Local → Option Circuit → TimerEvent
offered_on n c rose l None = Nothing
offered_on n c rose (Receive mac frame b) (Some s) = heard_from n s c rose (hello_read s.kind s.mac frame)
offered_on n c rose Release (Some s) = Nothing
offered_on n c rose Clear (Some s) = Nothing
offered_on n c rose (CsnpComplete level) (Some s) = CsnpSet (t1_place s.kind (n - 1) level) (only_level level)
offered_on n c rose (LookUp k) (Some s) = Nothing
offered_on n c rose LinkMetric (Some s) = Nothing
offered_on n c rose (NextHello level) (Some s) = Nothing

-- memory that was never set up holds no timer for a tick
unfoldable pub offered_over : Common → Global → TimerEvent
offered_over c (Tick clock) = cond (none_of c.circuits) Nothing (Clock c.lengths clock)
offered_over c (DatabaseComplete level) = Database (only_level level)
offered_over c Waiting = Nothing

-- an end is what receive is on the joined octets
unfoldable pub offered_by : ℕ → Common → Bool → Piece → Unfinished → TimerEvent
offered_by n c rose (Begin mac) u = Nothing
offered_by n c rose (Chunk octets) u = Nothing
offered_by n c rose (End b) NoFrame = Nothing
offered_by n c rose (End b) (Frame mac octets) = offered_on n c rose (Receive mac octets b) (circuit_of c n)

unfoldable pub offered : Gateway → Call → Bool → TimerEvent
offered g (At n l) rose = offered_on n g.common rose l (circuit_of g.common n)
offered g (Over w) rose = offered_over g.common w
offered g (Hand n p) rose = offered_by n g.common rose p (unfinished_on g n)

-- the record was not UP before the frame, and is UP after it
abbrev pub is_rise : ChangeAnswer → Bool
is_rise x = eqb x.after (phase_no Up) && not (eqb x.before (phase_no Up))

-- a refused call is nothing to the timers
unfoldable pub where_done : Answer → (Bool → TimerEvent) → TimerEvent
where_done (Refused n) e = Nothing
where_done (Received f) e = e (is_rise f.change)
where_done (Ticked lost hellos t) e = e false
where_done (Told f) e = e false

unfoldable pub event_of : Gateway → Call → TimerEvent
event_of g c = where_done (step g c).answer (offered g c)

-- the events of a run
abbrev pub events_of : List Turn → List TimerEvent
events_of ts = map (λ t. event_of t.before t.call) ts
