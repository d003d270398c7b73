-- The calls, and the step that each is (document 01, "What the gateway holds" and "Refusals by number"; document 02, W-205): its answer, the reply
-- buffer, and the next gateway. Each call's promise and every claim about lists of calls cite this step.
use Rattle.std.specs.Prelude.{ℕ, ◌-◌, Bool, true, false, cond, List, [], ◌∷◌, map, get_or, replicate, ltb, Option, Some, None}
use Rattle.basics.specs.declared.kind.CircuitKind.{CircuitKind}
use Rattle.basics.specs.declared.kind.CircuitKind.TheVariants.{Lan, P2p}
use Rattle.basics.specs.declared.levels.Levels.{Levels}
use Rattle.basics.specs.declared.refusal.Refusal.{Refusal}
use Rattle.basics.specs.declared.refusal.Refusal.TheVariants.{NoCircuit, ClockBack, NotRestarting, NotBegun}
use Rattle.basics.specs.Levels.{has_level, only_level}
use Rattle.adjacency.specs.declared.record.Key.{Key}
use Rattle.room.specs.Table.{find, released, expired, any_expired, first_state, empty_room}
use Rattle.metric.specs.Metric.{link_metric}
use Rattle.chunks.specs.Chunks.{Unfinished, NoFrame, Frame, begun, Joined, Refused as RefusedChunk, As, join}
use Rattle.basics.specs.Mask.{circuits}
use Rattle.timer_parts.specs.T1.{hello_flags}
use Rattle.timers.specs.Hellos.{Hellos, no_hellos}
use Rattle.timers.specs.Timers.{Timers, settled, ticked, to_t3, csnp_in, notice_t2s, no_t1, count_runs, lowest_runs}
use Rattle.settings.specs.Mode.{is_running}
use Rattle.timers.specs.Outcome.{ordered, tick_hellos}
use Rattle.timers.specs.declared.outcome.TimerOutcome.TheVariants.{Idle}
use Rattle.settings.specs.Settings.{enabled_levels}
use Rattle.settings.specs.Serving.{t1_place}
use Rattle.settings.specs.declared.circuit.Circuit.{Circuit}
use Rattle.control.specs.Common.{Common, with_clock, with_timers, circuit_of}
use Rattle.adjacency.specs.Keys.{key_on}
use Rattle.model.specs.Numbers.{some_waits, lowest_no}
use Rattle.model.specs.Answers.{Answer, Refused as RefusedAnswer, Ticked, Told, Fact, Done, Noticed, Looked, Metric, HelloFlags, Waits, TimersAnswer, timers_answer, record_answer}
use Rattle.model.specs.Gateway.{Room, Gateway, with_slots, with_rooms, with_common, room_of, renew, unfinished_on, with_unfinished}
use Rattle.model.specs.Receive.{Acted, refuse, receive}

-- ---- the calls

-- those that name a circuit, without its number
pub data Local : Type 0 where
  Receive : (mac : ℕ) (frame buffer : List ℕ) → Local
  Release : Local
  Clear : Local
  CsnpComplete : (level : ℕ) → Local
  LookUp : Key → Local
  LinkMetric : Local
  NextHello : (level : ℕ) → Local

-- those that name none
pub data Global : Type 0 where
  Tick : (clock : ℕ) → Global
  DatabaseComplete : (level : ℕ) → Global
  Waiting : Global

-- those that hand a frame over in chunks (document 02, W-205), without their circuit's number: a frame is begun with its source MAC, a chunk added,
-- and the frame ended with a reply buffer
pub data Piece : Type 0 where
  Begin : (mac : ℕ) → Piece
  Chunk : (octets : List ℕ) → Piece
  End : (buffer : List ℕ) → Piece

pub data Call : Type 0 where
  At : (circuit : ℕ) → Local → Call
  Over : Global → Call
  Hand : (circuit : ℕ) → Piece → Call

pub record Outcome : Type 0 where
  pub answer : Answer
  pub reply : List ℕ
  pub next : Gateway

-- ---- the calls on a circuit

abbrev pub told : Fact → Common → Room → Acted
told f c r = record { answer = Told f; reply = []; common = c; room = r }

-- a notice whose own step is f. Document 02, W-201: "11 is now given outside Restarting and Starting": in the mode Running.
abbrev pub notice_of : (Timers → Timers) → Common → Fact
notice_of f c = Noticed (timers_answer (ordered f c.timers))

abbrev pub settled_by : (Timers → Timers) → Common → Common
settled_by f c = with_timers (settled f c.timers) c

-- "CSNP set complete (circuit, level)"; 1 for "a level not enabled there", ahead of 11
abbrev pub csnp_of : ℕ → Circuit → ℕ → Timers → Timers
csnp_of n s level t = csnp_in (t1_place s.kind (n - 1) level) (only_level level) t

unfoldable pub csnp_complete : ℕ → Circuit → ℕ → Common → Room → Acted
csnp_complete n s level c r =
    cond (has_level s.levels level)
    (cond (is_running c.timers.mode) (refuse [] NotRestarting c r)
    (told (notice_of (csnp_of n s level) c) (settled_by (csnp_of n s level) c) r))
    (refuse [] NoCircuit c r)

-- the level of a key counts on a LAN alone
abbrev pub asks_level : CircuitKind → Levels → ℕ → Bool
asks_level Lan l level = has_level l level
asks_level P2p l level = true

-- "Look up answers 'none' where no such record stands."
unfoldable pub look_up : Circuit → Key → Common → Room → Acted
look_up s k c r =
    cond (asks_level s.kind s.levels k.level) (told (Looked (record_answer (find (key_on s.kind k) r.slots))) c r) (refuse [] NoCircuit c r)

-- a P2P room has one record at most
unfoldable pub link_metric_of : Circuit → Common → Room → Acted
link_metric_of s c r = told (Metric (link_metric s.kind s.metric (first_state r.slots))) c r

-- "The next hello carries RR exactly while T1 runs"; document 02, W-201: "every hello carries SA"; W-202: "the flags call takes a level". House: 1 for
-- a level that is not enabled there, on P2P too.
abbrev pub flags_at : ℕ → Circuit → ℕ → Timers → ℕ
flags_at n s level t = (hello_flags t.mode (get_or t.t1s (t1_place s.kind (n - 1) level) no_t1)).bits

unfoldable pub next_hello : ℕ → Circuit → ℕ → Common → Room → Acted
next_hello n s level c r = cond (has_level s.levels level) (told (HelloFlags (flags_at n s level c.timers)) c r) (refuse [] NoCircuit c r)

-- Clear (house, beside the calls of document 01): the link went down, and all records of its circuit go; no timer is touched
unfoldable pub act : ℕ → Circuit → Local → Common → Room → Acted
act n s (Receive mac frame b) c r = receive n s mac frame b c r
act n s Release c r = told Done c (with_slots r (released r.slots))
act n s Clear c r = told Done c (with_slots r (empty_room s.kind))
act n s (CsnpComplete level) c r = csnp_complete n s level c r
act n s (LookUp k) c r = look_up s k c r
act n s LinkMetric c r = link_metric_of s c r
act n s (NextHello level) c r = next_hello n s level c r

-- the reply buffer that a call lends
abbrev pub lent : Local → List ℕ
lent (Receive mac frame b) = b
lent Release = []
lent Clear = []
lent (CsnpComplete level) = []
lent (LookUp k) = []
lent LinkMetric = []
lent (NextHello level) = []

-- a call on circuit n, done on the common part and on its room
unfoldable pub lift : Gateway → ℕ → (Common → Room → Acted) → Outcome
lift g n f =
    let a : Acted = f g.common (room_of g n) in
    record { answer = a.answer; reply = a.reply; next = with_rooms (with_common g a.common) (renew g.rooms n a.room) }

abbrev pub refused : Gateway → List ℕ → Refusal → Outcome
refused g b x = record { answer = RefusedAnswer x; reply = b; next = g }

-- 1: "no circuit of that number"
unfoldable pub on : Gateway → ℕ → Local → Option Circuit → Outcome
on g n l None = refused g (lent l) NoCircuit
on g n l (Some s) = lift g n (act n s l)

unfoldable pub at : Gateway → ℕ → Local → Outcome
at g n l = on g n l (circuit_of g.common n)

-- ---- the calls that name none

-- what such a call comes to, by the common part alone
pub data Judged : Type 0 where
  Refused : Refusal → Judged
  Sweep : (clock : ℕ) (next : Common) → Hellos → TimersAnswer → Judged
  Tell : (next : Common) → Answer → Judged

unfoldable pub none_of : {A : Type 0} → List A → Bool
none_of [] = true
none_of (x ∷ xs) = false

abbrev pub quiet : Answer
quiet = Ticked (replicate circuits false) no_hellos (timers_answer Idle)

-- 10: "clock lower than the held clock"
abbrev pub is_back : ℕ → Common → Bool
is_back clock c = ltb clock c.clock

-- Memory that was never set up holds no circuit and no clock: there a tick does nothing.
unfoldable pub tick_of : ℕ → Common → Judged
tick_of clock c =
    cond (none_of c.circuits) (Tell c quiet)
    (cond (is_back clock c) (Refused ClockBack)
    (Sweep clock (with_timers (ticked c.lengths clock c.timers) (with_clock clock c)) (tick_hellos c.lengths clock c.timers)
    (timers_answer (ordered (to_t3 c.lengths clock) c.timers))))

-- 1: a level not enabled, "for database complete: on no circuit"
unfoldable pub database_of : ℕ → Common → Judged
database_of level c =
    cond (has_level (enabled_levels c.circuits) level)
    (cond (is_running c.timers.mode) (Refused NotRestarting)
    (Tell (settled_by (notice_t2s (only_level level)) c) (Told (notice_of (notice_t2s (only_level level)) c))))
    (Refused NoCircuit)

-- "how many circuits still wait for T1, and the lowest such circuit (or none)", as document 02, W-202 has it: how many T1s wait
abbrev pub waits_of : Timers → Fact
waits_of t = let low = lowest_runs t.t1s in Waits (count_runs t.t1s) (some_waits low) (lowest_no low)

unfoldable pub judge : Common → Global → Judged
judge c (Tick clock) = tick_of clock c
judge c (DatabaseComplete level) = database_of level c
judge c Waiting = Tell c (Told (waits_of c.timers))

-- "A tick removes each record with expiry at or below the clock, and marks its circuit in the answer."
abbrev pub swept_room : ℕ → Room → Room
swept_room clock r = with_slots r (expired clock r.slots)

abbrev pub lapsed : ℕ → Room → Bool
lapsed clock r = any_expired clock r.slots

unfoldable pub carry : Gateway → Judged → Outcome
carry g (Refused x) = refused g [] x
carry g (Sweep clock c hellos o) =
    record {
      answer = Ticked (map (lapsed clock) g.rooms) hellos o;
      reply = [];
      next = with_rooms (with_common g c) (map (swept_room clock) g.rooms);
    }
carry g (Tell c a) = record { answer = a; reply = []; next = with_common g c }

-- ---- a frame in chunks

abbrev pub handed : Gateway → Outcome
handed g = record { answer = Told Done; reply = []; next = g }

-- a chunk that was refused leaves "the unfinished frame .. as it was"
unfoldable pub chunked : Gateway → ℕ → Joined → Outcome
chunked g n (RefusedChunk x) = refused g [] x
chunked g n (As u) = handed (with_unfinished g n u)

-- 13, or receive on the joined octets: the frame is dropped, "even [by] one that receive refuses"
unfoldable pub ended : Gateway → ℕ → List ℕ → Unfinished → Outcome
ended g n b NoFrame = refused g b NotBegun
ended g n b (Frame mac octets) = at (with_unfinished g n NoFrame) n (Receive mac octets b)

-- "Beginning again drops it"
unfoldable pub hand : Gateway → ℕ → Piece → Outcome
hand g n (Begin mac) = handed (with_unfinished g n (begun mac))
hand g n (Chunk octets) = chunked g n (join (unfinished_on g n) octets)
hand g n (End b) = ended g n b (unfinished_on g n)

-- the reply buffer that it lends
abbrev pub lent_to : Piece → List ℕ
lent_to (Begin mac) = []
lent_to (Chunk octets) = []
lent_to (End b) = b

-- 1, ahead of 13 and 14
unfoldable pub hand_on : Gateway → ℕ → Piece → Option Circuit → Outcome
hand_on g n p None = refused g (lent_to p) NoCircuit
hand_on g n p (Some s) = hand g n p

-- ---- every call

unfoldable pub step : Gateway → Call → Outcome
step g (At n l) = at g n l
step g (Over w) = carry g (judge g.common w)
step g (Hand n p) = hand_on g n p (circuit_of g.common n)
