-- Document 01, "Sample runs", C1 to C7, of one frame's effect on one record, and a row of line 4, which none of them takes. C1 to C6 follow one
-- another: each starts from what the last left. P2P, configured time 30.
use Prim.Native.Nat.{ℕ}
use mathlib.Core.Path.{◌≡◌, refl}
use mathlib.Core.Bool.{true, false}
use Rattle.basics.specs.Octets.{has_bits}
use Rattle.restart_tlv.specs.Flags.{RR, PR}
use Rattle.restart_tlv.specs.declared.reader.RestartTlv.{RestartTlv}
use Rattle.restart_tlv.specs.declared.reader.RestartTlv.TheVariants.{Present as Tlv}
use Rattle.restart_tlv.specs.declared.writer.Ack.TheVariants.{Restart as RA, Planned as PA}
use Rattle.basics.specs.declared.levels.Levels.{Levels}
use Rattle.hello.specs.declared.read.Hello.{Hello}
use Rattle.hello.specs.declared.read.Link.{Link}
use Rattle.hello.specs.declared.read.Link.TheVariants.{P2p}
use Rattle.hello.specs.declared.three_way.ThreeWayState.{ThreeWayState}
use Rattle.hello.specs.declared.three_way.ThreeWayState.TheVariants.{Up as UpState, Down}
use Rattle.hello.specs.declared.three_way.Identifiers.TheVariants.{Absent as NoIdentifiers}
use Rattle.adjacency.specs.Step.{wrong_id, wrong_neighbor, link_step, kept_up, step_of}
use Rattle.adjacency.specs.Marks.{planned, line_by, line_of}
use Rattle.adjacency.specs.React.{data_by, accepted_by, line_in, react_of}
use Rattle.adjacency.specs.Duty.{csnps_of}
use Rattle.adjacency.specs.declared.record.Data.{Data}
use Rattle.adjacency.specs.declared.record.State.TheVariants.{Init, Up}
use Rattle.adjacency.specs.declared.record.Mark.{Mark}
use Rattle.adjacency.specs.declared.record.Mark.TheVariants.{Clear, Restart, Planned}
use Rattle.adjacency.specs.declared.step.Here.{Here}
use Rattle.adjacency.specs.declared.marks.Line.TheVariants.{One, Two, Three, Four, Five}
use Rattle.std.specs.Prelude.{Option, Some, None, Ok}
use Rattle.adjacency.specs.declared.record.State.{State}

abbrev pub at : ℕ → Here
at clock = record { clock = clock; restarting = false; own = 0x192168001001; circuit = 1; hold = 30 }

abbrev pub link : ThreeWayState → Link
link state = P2p (record { state = state; ids = NoIdentifiers })

-- a hello of the neighbour 192168001002 with Holding Time 27
abbrev pub heard : RestartTlv → Link → Hello
heard r l = record { system = 0x192168001002; hold = 27; restart = r; reverse = None; link = l }

-- with these flags, this Remaining Time and this three-way state
abbrev frame : ℕ → ℕ → ThreeWayState → Hello
frame flags time state = heard (Tlv (record { bits = flags }) time None) (link state)

abbrev kept : ℕ → Data
kept expiry = record { expiry = expiry; suppressed = false; last = record { priority = 0; tlv = true; reverse = None } }

abbrev up : ℕ → Mark → Option State
up expiry mark = Some (Up (kept expiry) mark)

abbrev both : Levels
both = record { one = true; two = true }

pub c1-to-c7 : (react_of (at 100) (frame RR 0 UpState) (up 110 Clear) ≡ Ok (up 127 Restart, Some (RA, 27), One))
    × (csnps_of One both (link UpState) false ≡ Some both)
    × (react_of (at 105) (frame RR 0 UpState) (up 127 Restart) ≡ Ok (up 127 Restart, Some (RA, 22), One))
    × (react_of (at 106) (frame 0 0 UpState) (up 127 Restart) ≡ Ok (up 133 Clear, None, Five))
    × (react_of (at 110) (frame PR 300 UpState) (up 133 Clear) ≡ Ok (up 410 Planned, Some (PA, 300), Three))
    × (react_of (at 120) (frame PR 600 UpState) (up 410 Planned) ≡ Ok (up 410 Planned, Some (PA, 290), Three))
    × (react_of (at 130) (frame RR 0 UpState) (up 410 Planned) ≡ Ok (up 160 Restart, Some (RA, 30), One))
    × (react_of (at 100) (frame RR 0 Down) None ≡ Ok (Some (Init (kept 127)), Some (RA, 27), Two))
    × (csnps_of Two both (link Down) false ≡ None)
unfolding react_of line_in accepted_by data_by line_by line_of planned step_of kept_up link_step wrong_neighbor wrong_id csnps_of has_bits
c1-to-c7 = (refl, refl, refl, refl, refl, refl, refl, refl, refl)

-- "Planned marked: clear both, expiry = clock + configured time": at 115, after C4, flags 0, Holding 27, three-way Up
pub line-four : react_of (at 115) (frame 0 0 UpState) (up 410 Planned) ≡ Ok (up 145 Clear, None, Four)
unfolding react_of line_in accepted_by data_by line_by line_of planned step_of kept_up link_step wrong_neighbor wrong_id has_bits
line-four = refl
