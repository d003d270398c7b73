-- What an accepted hello does to one circuit's room and to the reply buffer (document 01, "Refusals by number", "The state step" and
-- "Marks and holding time").
use Rattle.std.specs.Prelude.{ℕ, Bool, cond, List, ◌++◌, drop, Option, Some, None, Ok, Err}
use Rattle.restart_tlv.specs.Restart.{ack_flag, restart_octets}
use Rattle.basics.specs.declared.levels.Levels.{Levels}
use Rattle.hello.specs.declared.read.Hello.{Hello}
use Rattle.hello.specs.declared.read.Link.{Link}
use Rattle.basics.specs.declared.refusal.Refusal.TheVariants.{NoRoom}
use Rattle.adjacency.specs.React.{react_of}
use Rattle.adjacency.specs.Duty.{csnps_of}
use Rattle.adjacency.specs.declared.duty.Rank.{Rank}
use Rattle.adjacency.specs.declared.marks.Line.{Line}
use Rattle.adjacency.specs.declared.record.Key.{Key}
use Rattle.adjacency.specs.declared.step.Here.{Here}
use Rattle.adjacency.specs.declared.place.Slot.{Slot}
use Rattle.room.specs.Table.{find, put, crowded, any_outranks}
use Rattle.adjacency.specs.React.{Reaction}
use Rattle.restart_tlv.specs.declared.writer.Ack.{Ack}
use Rattle.adjacency.specs.declared.record.State.{State}

-- ---- refusals 8 and 9

-- 9, where 8 is not given: "the circuit's room is full and no record has the frame's key"
unfoldable pub if_room : Bool → Reaction → Reaction
if_room full (Err x) = Err x
if_room full (Ok (after, reply, line)) = cond full (Err NoRoom) (Ok (after, reply, line))

unfoldable pub decided : Here → Key → Hello → List Slot → Reaction
decided here k h t = if_room (crowded k t) (react_of here h (find k t))

-- ---- what is kept and written

-- "Up gives no record": then none stood before, and none is kept
unfoldable pub kept : Key → Option State → List Slot → List Slot
kept k None t = t
kept k (Some s) t = put k s t

-- "The reply is 11 octets .. Without a reply the buffer is untouched; octets past 11 always are."
unfoldable pub written : ℕ → Option (Ack × ℕ) → List ℕ → List ℕ
written system None b = b
written system (Some (ack, time)) b = restart_octets (ack_flag ack) time system ++ drop 11 b

-- "Line 1 also, after its marks are set, orders CSNPs and flooding marks": t is the room as the frame left it
unfoldable pub csnps_in : Rank → Line → Levels → Link → List Slot → Option Levels
csnps_in rank line levels link t = csnps_of line levels link (any_outranks rank t)
