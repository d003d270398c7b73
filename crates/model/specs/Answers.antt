-- What calls answer, in numbers (document 01, "What the gateway holds" and "Refusals by number"; document 02, W-201, W-202 and W-205), and for each answer of
-- the code, case by case, which one it is.
use Rattle.std.specs.Prelude.{ℕ, Bool, true, false, List, Option, Some, None, Result, Ok, Err}
use Rattle.basics.specs.declared.refusal.Refusal.{Refusal}
use Rattle.basics.specs.Mask.{circuits, bits_of}
use Rattle.adjacency.specs.Record.{advertised, phase_of, expiry_of, mark_of, suppressed_of}
use Rattle.adjacency.specs.declared.record.Key.{Key}
use Rattle.adjacency.specs.declared.record.Last.{Last}
use Rattle.adjacency.specs.declared.record.Mark.TheVariants.{Clear}
use Rattle.adjacency.specs.declared.record.Phase.{Phase}
use Rattle.adjacency.specs.declared.record.Phase.TheVariants.{Gone}
use Rattle.adjacency.specs.declared.record.State.{State}
use Rattle.adjacency.specs.declared.record.State.TheVariants.{Init, Up}
use Rattle.timers.specs.Hellos.{Hellos, hellos_of}
use Rattle.timers.specs.declared.outcome.Overload.TheVariants.{Quiet}
use Rattle.timers.specs.declared.outcome.TimerOutcome.{TimerOutcome}
use Rattle.timers.specs.declared.outcome.TimerOutcome.TheVariants.{Idle, Goes, Ended}
use Rattle.model.specs.Numbers.{refusal_no, reply_flags, reply_time, some_waits, lowest_no, levels_no, is_ordered, csnps_no, freed_no, hello_no, overload_no, restart_no, mark_no, phase_no, state_no}
use Rattle.model.specs.declared.answers.Change.{Change}
use Rattle.model.specs.declared.answers.Orders.{Orders}
use Rattle.model.specs.declared.answers.Waiting.{Waiting}
use Rattle.model.specs.declared.answers.Ticked.{Ticked as TickedCode}
use Rattle.model.specs.declared.answers.Found.{Found}
use Rattle.restart_tlv.specs.declared.flags.Flags.{Flags}
use Rattle.hello.specs.declared.reverse.ReverseMetric.{ReverseMetric}

-- ---- the parts of an answer

-- how the timers ended; the levels whose SPF is ordered; and what is ordered of overload
pub record TimersAnswer : Type 0 where
  pub restart : ℕ
  pub spf : ℕ
  pub overload : ℕ

-- what became of the frame's record: its key's level (0 on P2P) and System ID, its state before and after, whether it is advertised after
pub record ChangeAnswer : Type 0 where
  pub level : ℕ
  pub system : ℕ
  pub before : ℕ
  pub after : ℕ
  pub advertised : Bool

-- an accepted frame: the reply's flags and Remaining Time, whether line 1 orders CSNPs and the levels of its order, T1's end for want of a
-- Restart TLV, the flags of the hello that is ordered on its circuit (on a LAN, of its level), the timers, and the frame's record
pub record FrameAnswer : Type 0 where
  pub reply : ℕ
  pub time : ℕ
  pub ordered : Bool
  pub csnps : ℕ
  pub freed : ℕ
  pub hello : ℕ
  pub timers : TimersAnswer
  pub change : ChangeAnswer

-- a record with all its data; of one that is not there every number is 0
pub record RecordAnswer : Type 0 where
  pub state : ℕ
  pub advertised : Bool
  pub expiry : ℕ
  pub mark : ℕ
  pub suppressed : Bool
  pub tlv : Bool
  pub priority : ℕ
  pub reversed : Bool
  pub offset : ℕ
  pub whole : Bool
  pub unreachable : Bool

-- what is told by a call that asks, or that only says it was done; of the T1s that run how many, whether there is a lowest circuit, and which
pub data Fact : Type 0 where
  Done : Fact
  Noticed : TimersAnswer → Fact
  Looked : RecordAnswer → Fact
  Metric : ℕ → Fact
  HelloFlags : (flags : ℕ) → Fact
  Waits : (count : ℕ) (some : Bool) (lowest : ℕ) → Fact

-- "A refusal returns its number only", and for 5 and 6 (document 02, W-206) the position. Of a tick, lost: the circuits that lost a record, circuit 1 first; and the hellos that are ordered.
pub data Answer : Type 0 where
  Refused : Refusal → Answer
  Received : FrameAnswer → Answer
  Ticked : (lost : List Bool) → Hellos → TimersAnswer → Answer
  Told : Fact → Answer

-- the number of a refusal; 0 where the call was done
abbrev pub number_of : Answer → ℕ
number_of (Refused x) = refusal_no x
number_of (Received f) = 0
number_of (Ticked lost hellos t) = 0
number_of (Told f) = 0

-- ---- the parts, of the code's

abbrev pub timers_answer : TimerOutcome → TimersAnswer
timers_answer Idle = record { restart = restart_no Idle; spf = 0; overload = overload_no Quiet }
timers_answer (Goes spf overload) = record { restart = restart_no (Goes spf overload); spf = levels_no spf; overload = overload_no overload }
timers_answer (Ended spf overload) = record { restart = restart_no (Ended spf overload); spf = levels_no spf; overload = overload_no overload }

abbrev pub change_answer : Change → ChangeAnswer
change_answer x =
    record { level = x.level; system = x.system; before = phase_no x.before; after = phase_no x.after; advertised = x.advertised }

abbrev pub frame_answer : Orders → FrameAnswer
frame_answer o =
    record {
      reply = reply_flags o.reply;
      time = reply_time o.reply;
      ordered = is_ordered o.csnps;
      csnps = csnps_no o.csnps;
      freed = freed_no o.freed;
      hello = hello_no o.hello;
      timers = timers_answer o.outcome;
      change = change_answer o.change;
    }

-- what is kept of a record's last frame
abbrev pub last_of : State → Last
last_of (Init d) = d.last
last_of (Up d m) = d.last

abbrev pub is_reversed : Option ReverseMetric → Bool
is_reversed None = false
is_reversed (Some r) = true

abbrev pub offset_of : Option ReverseMetric → ℕ
offset_of None = 0
offset_of (Some r) = r.offset

abbrev pub whole_of : Option ReverseMetric → Bool
whole_of None = false
whole_of (Some r) = r.whole

abbrev pub unreachable_of : Option ReverseMetric → Bool
unreachable_of None = false
unreachable_of (Some r) = r.unreachable

-- a record in this state, which is advertised or not
abbrev pub state_answer : State → Bool → RecordAnswer
state_answer s shown =
    record {
      state = state_no s;
      advertised = shown;
      expiry = expiry_of s;
      mark = mark_no (mark_of (Some s));
      suppressed = suppressed_of (Some s);
      tlv = (last_of s).tlv;
      priority = (last_of s).priority;
      reversed = is_reversed (last_of s).reverse;
      offset = offset_of (last_of s).reverse;
      whole = whole_of (last_of s).reverse;
      unreachable = unreachable_of (last_of s).reverse;
    }

abbrev pub no_record : RecordAnswer
no_record =
    record {
      state = phase_no Gone;
      advertised = false;
      expiry = 0;
      mark = mark_no Clear;
      suppressed = false;
      tlv = false;
      priority = 0;
      reversed = false;
      offset = 0;
      whole = false;
      unreachable = false;
    }

-- "A record is advertised exactly when it is UP and not Suppressed."
abbrev pub record_answer : Option State → RecordAnswer
record_answer None = no_record
record_answer (Some s) = state_answer s (advertised s)

abbrev pub is_shown : Option State → Bool
is_shown None = false
is_shown (Some s) = advertised s

-- the record with the key k, its state before and itself after
abbrev pub change_of : Key → Phase → Option State → Change
change_of k before after =
    record { level = k.level; system = k.system; before = before; after = phase_of after; advertised = is_shown after }

-- ---- the code's answers

-- a mask's digits for the circuits that lost a record
abbrev pub lost_bits : ℕ → List Bool
lost_bits m = bits_of circuits m

abbrev pub received_of : Result Orders Refusal → Answer
received_of (Err x) = Refused x
received_of (Ok o) = Received (frame_answer o)

abbrev pub ticked_of : Result TickedCode Refusal → Answer
ticked_of (Err x) = Refused x
ticked_of (Ok t) = Ticked (lost_bits t.lost) (hellos_of t.hellos) (timers_answer t.outcome)

abbrev pub released_of : Result (Unit {0}) Refusal → Answer
released_of (Err x) = Refused x
released_of (Ok u) = Told Done

-- of a begin or a chunk
abbrev pub handed_of : Result (Unit {0}) Refusal → Answer
handed_of (Err x) = Refused x
handed_of (Ok u) = Told Done

abbrev pub noticed_of : Result TimerOutcome Refusal → Answer
noticed_of (Err x) = Refused x
noticed_of (Ok o) = Told (Noticed (timers_answer o))

abbrev pub looked_of : Result (Option Found) Refusal → Answer
looked_of (Err x) = Refused x
looked_of (Ok None) = Told (Looked no_record)
looked_of (Ok (Some f)) = Told (Looked (state_answer f.state f.advertised))

abbrev pub metric_of : Result ℕ Refusal → Answer
metric_of (Err x) = Refused x
metric_of (Ok n) = Told (Metric n)

abbrev pub flags_of : Result Flags Refusal → Answer
flags_of (Err x) = Refused x
flags_of (Ok f) = Told (HelloFlags f.bits)

abbrev pub waiting_of : Waiting → Answer
waiting_of w = Told (Waits w.count (some_waits w.lowest) (lowest_no w.lowest))
