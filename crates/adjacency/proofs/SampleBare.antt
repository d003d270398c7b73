-- Rows of document 02, W-203: frames without the Restart TLV, and frames whose TLV is ignored, on P2P and on a LAN. At clock 100, Holding Time 27,
-- configured time 30: Holding is 127, and line 4 gives 130.
use Prim.Native.Nat.{ℕ}
use mathlib.Core.Path.{◌≡◌, refl}
use mathlib.Core.Bool.{Bool, true, false}
use Rattle.basics.specs.Octets.{has_bits}
use Rattle.restart_tlv.specs.declared.reader.RestartTlv.{RestartTlv}
use Rattle.restart_tlv.specs.declared.reader.RestartTlv.TheVariants.{Absent as Bare, Ignored}
use Rattle.hello.specs.declared.read.Link.{Link}
use Rattle.hello.specs.declared.read.Link.TheVariants.{Lan}
use Rattle.hello.specs.declared.three_way.ThreeWayState.TheVariants.{Up as UpState, Down}
use Rattle.adjacency.specs.Record.{advertised}
use Rattle.adjacency.specs.Step.{wrong_id, wrong_neighbor, link_step, kept_up, step_of}
use Rattle.adjacency.specs.Marks.{planned, line_by, line_of}
use Rattle.adjacency.specs.React.{data_by, accepted_by, line_in, react_of}
use Rattle.adjacency.specs.Duty.{outranks}
use Rattle.adjacency.specs.declared.record.Data.{Data}
use Rattle.adjacency.specs.declared.record.State.{State}
use Rattle.adjacency.specs.declared.record.State.TheVariants.{Init, Up}
use Rattle.adjacency.specs.declared.record.Record.{Record}
use Rattle.adjacency.specs.declared.record.Mark.TheVariants.{Clear, Restart, Planned}
use Rattle.adjacency.specs.declared.marks.Line.{Line}
use Rattle.adjacency.specs.declared.marks.Line.TheVariants.{Four, Five}
use Rattle.adjacency.specs.declared.duty.Rank.{Rank}
use Rattle.adjacency.proofs.SampleRuns.{at, link, heard}
use Rattle.std.specs.Prelude.{Some, None, Ok}

-- a frame with this TLV on this link makes of one state another, by this line and with no reply
abbrev Makes : RestartTlv → Link → State → State → Line → Type 0
Makes r l before after line = react_of (at 100) (heard r l) (Some before) ≡ Ok (Some after, None, line)

-- frames of this priority
module _ (priority : ℕ) where
  -- expiry, Suppressed, and whether the record counts as having the TLV
  abbrev kept : ℕ → Bool → Bool → Data
  kept expiry suppressed tlv = record { expiry = expiry; suppressed = suppressed; last = record { priority = priority; tlv = tlv; reverse = None } }

  -- on links that leave a record UP, and INIT
  module _ (up init : Link) where
    -- Suppressed, Restart and Planned end, in either state; a record that was INIT and Suppressed becomes UP and is not
    abbrev BareRows : Type 0
    BareRows = Makes Bare up (Up (kept 110 true true) Clear) (Up (kept 127 false false) Clear) Five
        × Makes Bare init (Init (kept 110 true true)) (Init (kept 127 false false)) Five
        × Makes Bare init (Up (kept 110 true true) Clear) (Init (kept 127 false false)) Five
        × Makes Bare up (Init (kept 110 true true)) (Up (kept 127 false false) Clear) Five
        × Makes Bare up (Up (kept 110 false true) Restart) (Up (kept 127 false false) Clear) Five
        × Makes Bare init (Up (kept 110 false true) Restart) (Init (kept 127 false false)) Five
        × Makes Bare up (Up (kept 410 false true) Planned) (Up (kept 130 false false) Clear) Four
        × Makes Bare init (Up (kept 410 false true) Planned) (Init (kept 130 false false)) Four

    -- Restart and Planned end; Suppressed stays, and the record counts as having the TLV
    abbrev IgnoredRows : Type 0
    IgnoredRows = Makes Ignored up (Up (kept 110 true false) Restart) (Up (kept 127 true true) Clear) Five
        × Makes Ignored init (Init (kept 110 true false)) (Init (kept 127 true true)) Five
        × Makes Ignored up (Up (kept 410 true false) Planned) (Up (kept 130 true true) Clear) Four
        × Makes Ignored init (Up (kept 410 true false) Planned) (Init (kept 130 true true)) Four

-- a LAN hello of level 1 and priority 64, in which we are listed or not
abbrev lan : Bool → Link
lan listed = Lan 1 64 listed

pub bare-p2p : BareRows 0 (link UpState) (link Down)
unfolding react_of line_in accepted_by data_by line_by line_of planned step_of kept_up link_step wrong_neighbor wrong_id has_bits
bare-p2p = (refl, refl, refl, refl, refl, refl, refl, refl)

pub bare-lan : BareRows 64 (lan true) (lan false)
unfolding react_of line_in accepted_by data_by line_by line_of planned step_of kept_up link_step wrong_neighbor wrong_id has_bits
bare-lan = (refl, refl, refl, refl, refl, refl, refl, refl)

pub ignored-p2p : IgnoredRows 0 (link UpState) (link Down)
unfolding react_of line_in accepted_by data_by line_by line_of planned step_of kept_up link_step wrong_neighbor wrong_id has_bits
ignored-p2p = (refl, refl, refl, refl)

pub ignored-lan : IgnoredRows 64 (lan true) (lan false)
unfolding react_of line_in accepted_by data_by line_by line_of planned step_of kept_up link_step wrong_neighbor wrong_id has_bits
ignored-lan = (refl, refl, refl, refl)

-- the LAN record after either, with the MAC 02:00:00:00:00:02; our own pair is (64, 02:00:00:00:00:01)
abbrev neighbour : State → Record
neighbour state = record { key = record { level = 1; system = 0x192168001002; mac = 0x020000000002 }; state = state }

abbrev own : Rank
own = record { level = 1; priority = 64; mac = 0x020000000001 }

-- with the frame without the TLV it is advertised again, and leaves the CSNPs to us; with the ignored one neither
pub bare-neighbour : (advertised (Up (kept 64 127 false false) Clear) ≡ true) × (outranks own (neighbour (Up (kept 64 127 false false) Clear)) ≡ false)
    × (advertised (Up (kept 64 127 true true) Clear) ≡ false) × (outranks own (neighbour (Up (kept 64 127 true true) Clear)) ≡ true)
unfolding outranks
bare-neighbour = (refl, refl, refl, refl)
