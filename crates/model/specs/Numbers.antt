-- The numbers of every answer, case by case: the one table of them ("For any answer that is an enum, a definition gives this paper's
-- number and values for each of its cases"). Refusals, flags, levels and circuits have document 01's numbers ("Refusals by number", "TLVs
-- read"); the others are house. Every promise of crates gateway and isis_gr goes by this table, through Answers.
use Rattle.std.specs.Prelude.{ℕ, ◌+◌, ◌*◌, Bool, true, false, Option, Some, None}
use Rattle.basics.specs.Bits.{bit_of}
use Rattle.basics.specs.declared.levels.Levels.{Levels}
use Rattle.basics.specs.declared.refusal.Refusal.{Refusal}
use Rattle.basics.specs.declared.refusal.Refusal.TheVariants.{NoCircuit, ReplyRoom, NotHello, BadLength, TlvPastEnd, BadTlv, WrongSource, WrongNeighbor, NoRoom, ClockBack, NotRestarting, BadSetting, NotBegun, TooLong}
use Rattle.restart_tlv.specs.Flags.{SA}
use Rattle.restart_tlv.specs.Restart.{ack_flag}
use Rattle.adjacency.specs.declared.record.Mark.{Mark}
use Rattle.adjacency.specs.declared.record.Mark.TheVariants.{Clear as Unmarked, Restart, Planned}
use Rattle.adjacency.specs.Record.{phase_of}
use Rattle.adjacency.specs.declared.record.Phase.{Phase}
use Rattle.adjacency.specs.declared.record.Phase.TheVariants.{Gone, Init as InitPhase, Up as UpPhase}
use Rattle.adjacency.specs.declared.record.State.{State}
use Rattle.timer_parts.specs.declared.t1.Freed.{Freed}
use Rattle.timer_parts.specs.declared.t1.Freed.TheVariants.{Kept, Stopped, Reinitialise}
use Rattle.timers.specs.declared.hellos.HelloOrder.{HelloOrder}
use Rattle.timers.specs.declared.hellos.HelloOrder.TheVariants.{Nothing as NoHello, Suppress}
use Rattle.timers.specs.declared.outcome.TimerOutcome.{TimerOutcome}
use Rattle.timers.specs.declared.outcome.TimerOutcome.TheVariants.{Idle, Goes, Ended}
use Rattle.timers.specs.declared.outcome.Overload.{Overload}
use Rattle.timers.specs.declared.outcome.Overload.TheVariants.{Quiet, Set, Clear, Both}
use Rattle.restart_tlv.specs.declared.writer.Ack.{Ack}

-- ---- document 01's

-- "Refusals by number, in the order checked"; 13 and 14 are document 02's (W-205)
abbrev pub refusal_no : Refusal → ℕ
refusal_no NoCircuit = 1
refusal_no ReplyRoom = 2
refusal_no NotHello = 3
refusal_no BadLength = 4
refusal_no (TlvPastEnd position) = 5
refusal_no (BadTlv position) = 6
refusal_no WrongSource = 7
refusal_no WrongNeighbor = 8
refusal_no NoRoom = 9
refusal_no ClockBack = 10
refusal_no NotRestarting = 11
refusal_no BadSetting = 12
refusal_no NotBegun = 13
refusal_no TooLong = 14

-- document 02, W-206: the position that refusals 5 and 6 bring, counted in octets from 1; 0 where a refusal brings none
abbrev pub position_no : Refusal → ℕ
position_no NoCircuit = 0
position_no ReplyRoom = 0
position_no NotHello = 0
position_no BadLength = 0
position_no (TlvPastEnd position) = position
position_no (BadTlv position) = position
position_no WrongSource = 0
position_no WrongNeighbor = 0
position_no NoRoom = 0
position_no ClockBack = 0
position_no NotRestarting = 0
position_no BadSetting = 0
position_no NotBegun = 0
position_no TooLong = 0

-- the flags of the reply, "RA or PA alone" (2, 16), 0 without one; and its Remaining Time
abbrev pub reply_flags : Option (Ack × ℕ) → ℕ
reply_flags None = 0
reply_flags (Some (ack, time)) = ack_flag ack

abbrev pub reply_time : Option (Ack × ℕ) → ℕ
reply_time None = 0
reply_time (Some (ack, time)) = time

-- "the lowest such circuit (or none)": whether there is one, and its number; 0 for none
abbrev pub some_waits : Option ℕ → Bool
some_waits None = false
some_waits (Some n) = true

abbrev pub lowest_no : Option ℕ → ℕ
lowest_no None = 0
lowest_no (Some n) = n

-- ---- house

-- levels: 1, 2, or 3 for both; 0 for none
abbrev pub levels_no : Levels → ℕ
levels_no l = bit_of l.one + 2 * bit_of l.two

-- whether line 1 orders CSNPs, and the levels of its order
abbrev pub is_ordered : Option Levels → Bool
is_ordered None = false
is_ordered (Some l) = true

abbrev pub csnps_no : Option Levels → ℕ
csnps_no None = 0
csnps_no (Some l) = levels_no l

-- the flags of the hello that a frame orders on its circuit (SA, 4: document 02, W-201), 0 without one
abbrev pub hello_no : HelloOrder → ℕ
hello_no NoHello = 0
hello_no Suppress = SA

-- whether the frame stopped T1 for want of a Restart TLV, and whether the adjacency is to reinitialise (RFC 8706, 3.3.1)
abbrev pub freed_no : Freed → ℕ
freed_no Kept = 0
freed_no Stopped = 1
freed_no Reinitialise = 2

-- overload: nothing, to be set, to be cleared, set and then cleared
abbrev pub overload_no : Overload → ℕ
overload_no Quiet = 0
overload_no Set = 1
overload_no Clear = 2
overload_no Both = 3

-- how the timers ended: in the mode Running before the call; the restart or the start goes on; it ended in this call
abbrev pub restart_no : TimerOutcome → ℕ
restart_no Idle = 0
restart_no (Goes spf overload) = 1
restart_no (Ended spf overload) = 2

-- the marks Restart and Planned
abbrev pub mark_no : Mark → ℕ
mark_no Unmarked = 0
mark_no Restart = 1
mark_no Planned = 2

-- no record, INIT and UP
abbrev pub phase_no : Phase → ℕ
phase_no Gone = 0
phase_no InitPhase = 1
phase_no UpPhase = 2

abbrev pub state_no : State → ℕ
state_no s = phase_no (phase_of (Some s))
