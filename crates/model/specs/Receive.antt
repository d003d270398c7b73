-- Receive on a circuit, by stages in the order of the refusals (document 01, "Refusals by number"; document 02, W-201 and W-202). A stage is a
-- function of the common part and of the circuit's own; n is the circuit's number, s its settings, b the lent reply buffer.
use Rattle.std.specs.Prelude.{ℕ, ◌-◌, Bool, cond, List, length, ltb, Option, Result, Ok, Err}
use Rattle.hello.specs.Hello.{hello_read}
use Rattle.hello.specs.declared.read.Hello.{Hello}
use Rattle.basics.specs.declared.refusal.Refusal.{Refusal}
use Rattle.basics.specs.declared.refusal.Refusal.TheVariants.{ReplyRoom, WrongSource}
use Rattle.adjacency.specs.Record.{phase_of}
use Rattle.adjacency.specs.Step.{wrong_source, rises}
use Rattle.adjacency.specs.declared.duty.Rank.{Rank}
use Rattle.adjacency.specs.declared.marks.Line.{Line}
use Rattle.adjacency.specs.declared.record.Key.{Key}
use Rattle.adjacency.specs.declared.step.Here.{Here}
use Rattle.timer_parts.specs.Heard.{heard_of}
use Rattle.timer_parts.specs.declared.heard.Heard.{Heard}
use Rattle.timers.specs.Timers.{Timers, heard}
use Rattle.settings.specs.Mode.{is_restarting}
use Rattle.timers.specs.Outcome.{heard_orders}
use Rattle.timers.specs.declared.events.HeardOrders.{HeardOrders}
use Rattle.settings.specs.Serving.{t1_place}
use Rattle.settings.specs.declared.circuit.Circuit.{Circuit}
use Rattle.control.specs.Common.{Common, with_timers}
use Rattle.adjacency.specs.Keys.{level_in, key_in}
use Rattle.room.specs.Table.{find}
use Rattle.room.specs.Accept.{decided, kept, written, csnps_in}
use Rattle.model.specs.declared.answers.Change.{Change}
use Rattle.model.specs.declared.answers.Orders.{Orders}
use Rattle.model.specs.Answers.{Answer, Refused, Received, frame_answer, change_of}
use Rattle.model.specs.Gateway.{Room, with_slots}
use Rattle.adjacency.specs.React.{Reaction}
use Rattle.restart_tlv.specs.declared.writer.Ack.{Ack}
use Rattle.adjacency.specs.declared.record.State.{State}

-- what a call on a circuit answers and replies, and what it makes of the common part and of the circuit's own
pub record Acted : Type 0 where
  pub answer : Answer
  pub reply : List ℕ
  pub common : Common
  pub room : Room

-- a refusal leaves the common part, the room and the lent buffer as they were
unfoldable pub refuse : List ℕ → Refusal → Common → Room → Acted
refuse b x c r = record { answer = Refused x; reply = b; common = c; room = r }

-- ---- an accepted frame

-- what the state step and the marks know of the gateway
abbrev pub here_of : Common → Circuit → Here
here_of c s = record { clock = c.clock; restarting = is_restarting c.timers.mode; own = c.system; circuit = s.id; hold = s.hold }

-- our own pair (priority, MAC), at the frame's level
abbrev pub rank_of : Circuit → Hello → Rank
rank_of s h = record { level = level_in h.link; priority = s.priority; mac = s.mac }

-- what the frame says to the timers
abbrev pub said_of : Common → Circuit → Hello → Heard
said_of c s h = heard_of c.system s.id h

-- the record that changed so became UP
abbrev pub has_risen : Change → Bool
has_risen x = rises x.before x.after

-- the place of the frame's T1: on a LAN that of its level, on P2P the circuit's; places count from 0
abbrev pub t1_of : ℕ → Circuit → Hello → ℕ
t1_of n s h = t1_place s.kind (n - 1) (level_in h.link)

-- the timers that the frame leaves, and what it orders of them
abbrev pub timers_after : ℕ → Circuit → Hello → Change → Common → Timers
timers_after n s h x c = heard c.lengths c.clock (t1_of n s h) (has_risen x) (said_of c s h) c.timers

abbrev pub timers_orders : ℕ → Circuit → Hello → Change → Common → HeardOrders
timers_orders n s h x c = heard_orders c.lengths c.clock (t1_of n s h) (has_risen x) (said_of c s h) c.timers

abbrev pub orders_of : ℕ → Circuit → Hello → Option (Ack × ℕ) → Line → Change → Common → Room → Orders
orders_of n s h reply line change c r =
    let o : HeardOrders = timers_orders n s h change c in
    record {
      reply = reply;
      csnps = csnps_in (rank_of s h) line s.levels h.link r.slots;
      outcome = o.outcome;
      freed = o.freed;
      hello = o.hello;
      change = change;
    }

-- The record, then line 1's order, then the timers, then the reply.
unfoldable pub accepted : ℕ → Circuit → Hello → Key → List ℕ → Option State → Option (Ack × ℕ) → Line → Common → Room → Acted
accepted n s h k b after reply line c r =
    let change : Change = change_of k (phase_of (find k r.slots)) after in
    let room : Room = with_slots r (kept k after r.slots) in
    record {
      answer = Received (frame_answer (orders_of n s h reply line change c room));
      reply = written h.system reply b;
      common = with_timers (timers_after n s h change c) c;
      room = room;
    }

-- refusals 8 and 9, or the frame's effect
unfoldable pub reacted : ℕ → Circuit → Hello → Key → List ℕ → Reaction → Common → Room → Acted
reacted n s h k b (Err x) c r = refuse b x c r
reacted n s h k b (Ok (after, reply, line)) c r = accepted n s h k b after reply line c r

unfoldable pub decided_in : ℕ → Circuit → ℕ → List ℕ → Hello → Common → Room → Acted
decided_in n s mac b h c r =
    reacted n s h (key_in s.kind mac h) b (decided (here_of c s) (key_in s.kind mac h) h r.slots) c r

-- refusal 7
unfoldable pub checked : ℕ → Circuit → ℕ → List ℕ → Hello → Common → Room → Acted
checked n s mac b h c r =
    cond (wrong_source s.levels c.system h) (refuse b WrongSource c r) (decided_in n s mac b h c r)

-- refusals 3 to 6
unfoldable pub read_in : ℕ → Circuit → ℕ → List ℕ → Result Hello Refusal → Common → Room → Acted
read_in n s mac b (Err x) = refuse b x
read_in n s mac b (Ok h) = checked n s mac b h

-- refusal 2: "reply buffer under 11 octets, reply due or not"
abbrev pub is_short : List ℕ → Bool
is_short b = ltb (length b) 11

unfoldable pub receive : ℕ → Circuit → ℕ → List ℕ → List ℕ → Common → Room → Acted
receive n s mac frame b = cond (is_short b) (refuse b ReplyRoom) (read_in n s mac b (hello_read s.kind s.mac frame))
