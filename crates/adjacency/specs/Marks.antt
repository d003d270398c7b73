-- Marks, expiry and reply of an accepted frame (document 01, "Marks and holding time"; RFC 8706, 3.2.1 to 3.2.3).
use Rattle.std.specs.Prelude.{ℕ, ◌+◌, ◌-◌, min, Bool, cond, ◌&&◌, Option, Some, None}
use Rattle.basics.specs.Octets.{has_bits}
use Rattle.restart_tlv.specs.Flags.{RR, SA, PR}
use Rattle.restart_tlv.specs.declared.flags.Flags.{Flags}
use Rattle.restart_tlv.specs.declared.reader.RestartTlv.{RestartTlv}
use Rattle.restart_tlv.specs.declared.reader.RestartTlv.TheVariants.{Absent, Ignored, Present}
use Rattle.restart_tlv.specs.declared.writer.Ack.TheVariants.{Restart as RestartAck, Planned as PlannedAck}
use Rattle.adjacency.specs.Record.{is_up}
use Rattle.adjacency.specs.declared.record.Mark.{Mark}
use Rattle.adjacency.specs.declared.record.Mark.TheVariants.{Clear, Restart, Planned}
use Rattle.adjacency.specs.declared.record.Phase.{Phase}
use Rattle.adjacency.specs.declared.marks.Line.{Line}
use Rattle.adjacency.specs.declared.marks.Line.TheVariants.{One, Two, Three, Four, Five}
use Rattle.adjacency.specs.declared.marks.Road.{Road}
use Rattle.adjacency.specs.declared.marks.Times.{Times}
use Rattle.restart_tlv.specs.declared.writer.Ack.{Ack}

-- the first line that fits, of a mark and of the record's phase before and after: 4 where Planned is marked, else 5
abbrev pub last_line : Mark → Line
last_line Clear = Five
last_line Restart = Five
last_line Planned = Four

unfoldable pub planned : Flags → Phase → Phase → Bool
planned f before after = has_bits f.bits PR && (is_up before && is_up after)

-- 1: RR, record UP before. 2: RR, otherwise. 3: PR, record UP before and after (house). 4 and 5 otherwise.
unfoldable pub line_by : Flags → Mark → Phase → Phase → Line
line_by f mark before after =
    cond (has_bits f.bits RR) (cond (is_up before) One Two)
    (cond (planned f before after) Three (last_line mark))

-- Document 02, W-203: "a frame without the TLV is from now on read as one with all flags clear". The flags of an ignored TLV (RFC 8706, 3.2)
-- choose no line either.
abbrev pub all_clear : Flags
all_clear = record { bits = 0 }

abbrev pub flags_in : RestartTlv → Flags
flags_in Absent = all_clear
flags_in Ignored = all_clear
flags_in (Present f time n) = f

unfoldable pub line_of : RestartTlv → Mark → Phase → Phase → Line
line_of tlv mark before after = line_by (flags_in tlv) mark before after

-- "Holding" means expiry = clock + Holding Time
abbrev pub holding : Times → ℕ
holding t = t.clock + t.hold

-- line 1: Planned marked: expiry = clock + configured time. Else Restart not marked: Holding. Else expiry stays.
abbrev pub first_expiry : Times → Mark → ℕ
first_expiry t Clear = holding t
first_expiry t Restart = t.expiry
first_expiry t Planned = t.clock + t.configured

-- line 3: Planned not marked: expiry = clock + Remaining Time. Else expiry stays.
abbrev pub third_expiry : Times → Mark → ℕ
third_expiry t Clear = t.clock + t.remaining
third_expiry t Restart = t.clock + t.remaining
third_expiry t Planned = t.expiry

-- line 4: expiry = clock + configured time. Lines 2 and 5: Holding.
abbrev pub expiry_by : Line → Times → Mark → ℕ
expiry_by One t mark = first_expiry t mark
expiry_by Two t mark = holding t
expiry_by Three t mark = third_expiry t mark
expiry_by Four t mark = t.clock + t.configured
expiry_by Five t mark = holding t

-- Line 1 clears Planned and marks Restart; line 3 clears Restart and marks Planned; lines 4 and 5 clear; line 2 marks nothing.
abbrev pub mark_by : Line → Mark → Mark
mark_by One mark = Restart
mark_by Two mark = mark
mark_by Three mark = Planned
mark_by Four mark = Clear
mark_by Five mark = Clear

-- SA set marks Suppressed, SA clear unmarks it, on a record of either state. Where all flags are clear, SA is. An ignored TLV says nothing of SA, so
-- Suppressed stays (RFC 8706, 3.2.2: "Until an IIH with the SA bit clear has been received").
abbrev pub suppressed_by : RestartTlv → Bool → Bool
suppressed_by Absent was = has_bits all_clear.bits SA
suppressed_by Ignored was = was
suppressed_by (Present f time n) was = has_bits f.bits SA

-- the frame's Remaining Time
abbrev pub time_in : RestartTlv → ℕ
time_in Absent = 0
time_in Ignored = 0
time_in (Present f time n) = time

-- all three, as a frame's TLV gives them
abbrev pub road_of : RestartTlv → Mark → Bool → Phase → Phase → Road
road_of tlv mark was before after = record { line = line_of tlv mark before after; time = time_in tlv; suppressed = suppressed_by tlv was }

-- Remaining Time = expiry less clock, as far as its two octets go
abbrev pub remaining_of : ℕ → ℕ → ℕ
remaining_of expiry clock = min (expiry - clock) 65535

-- lines 1 and 2 reply RA, line 3 replies PA, with this Remaining Time
abbrev pub reply_by : Line → ℕ → Option (Ack × ℕ)
reply_by One time = Some (RestartAck, time)
reply_by Two time = Some (RestartAck, time)
reply_by Three time = Some (PlannedAck, time)
reply_by Four time = None
reply_by Five time = None
