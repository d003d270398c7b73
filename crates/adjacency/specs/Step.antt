-- Refusals 7 and 8, and the state step (document 01, "Refusals by number" and "The state step"; RFC 5303, 3.2; RFC 8706, 3.3.1).
use Rattle.std.specs.Prelude.{ℕ, Bool, false, not, cond, ◌||◌, ◌&&◌, eqb}
use Rattle.basics.specs.Levels.{has_level}
use Rattle.basics.specs.Octets.{has_bits}
use Rattle.restart_tlv.specs.Flags.{RR}
use Rattle.restart_tlv.specs.declared.reader.RestartTlv.{RestartTlv}
use Rattle.restart_tlv.specs.declared.reader.RestartTlv.TheVariants.{Absent, Ignored, Present}
use Rattle.basics.specs.declared.levels.Levels.{Levels}
use Rattle.hello.specs.declared.read.Hello.{Hello}
use Rattle.hello.specs.declared.read.Link.{Link}
use Rattle.hello.specs.declared.read.Link.TheVariants.{Lan, P2p}
use Rattle.hello.specs.declared.three_way.ThreeWayState.{ThreeWayState}
use Rattle.hello.specs.declared.three_way.ThreeWayState.TheVariants.{Up, Initializing, Down}
use Rattle.hello.specs.declared.three_way.Identifiers.{Identifiers}
use Rattle.hello.specs.declared.three_way.Identifiers.TheVariants.{Absent as NoIds, Own, Neighbor, Whole}
use Rattle.adjacency.specs.Record.{is_up}
use Rattle.adjacency.specs.declared.record.Phase.{Phase}
use Rattle.adjacency.specs.declared.record.Phase.TheVariants.{Gone, Init as InitPhase, Up as UpPhase}
use Rattle.adjacency.specs.declared.step.Here.{Here}
use Rattle.adjacency.specs.declared.step.Wrong.{Wrong}

abbrev pub level_off : Levels → Link → Bool
level_off l (Lan level priority listed) = not (has_level l level)
level_off l (P2p t) = false

-- refusal 7: LAN level not enabled on the circuit, or source System ID is our own
unfoldable pub wrong_source : Levels → ℕ → Hello → Bool
wrong_source l own h = level_off l h.link || eqb h.system own

-- RR is set, in a TLV that is not ignored
abbrev pub requests : RestartTlv → Bool
requests Absent = false
requests Ignored = false
requests (Present f time n) = has_bits f.bits RR

-- a Neighbor System ID or a Neighbor Extended Circuit ID present and not ours
abbrev pub wrong_system : ℕ → Identifiers → Bool
wrong_system own NoIds = false
wrong_system own (Own c) = false
wrong_system own (Neighbor c s) = not (eqb s own)
wrong_system own (Whole c s n) = not (eqb s own)

abbrev pub wrong_circuit : ℕ → Identifiers → Bool
wrong_circuit own NoIds = false
wrong_circuit own (Own c) = false
wrong_circuit own (Neighbor c s) = false
wrong_circuit own (Whole c s n) = not (eqb n own)

unfoldable pub wrong_id : Here → Identifiers → Bool
wrong_id here ids = wrong_system here.own ids || wrong_circuit here.circuit ids

-- the three answers at once, for the code; a LAN frame has no such identifier
abbrev pub wrong_of : Here → Link → Wrong
wrong_of here (Lan level priority listed) = record { id = false; system = false; circuit = false }
wrong_of here (P2p t) =
    record { id = wrong_id here t.ids; system = wrong_system here.own t.ids; circuit = wrong_circuit here.circuit t.ids }

-- ".. unless RR is set and the record is UP, or only the circuit ID is wrong, the mode is Restarting and the record isn't UP"
abbrev pub excused : Bool → Bool → Bool → Bool → Bool
excused request up system restarting = (request && up) || (not system && (restarting && not up))

-- refusal 8
unfoldable pub wrong_neighbor : Here → Phase → Hello → Link → Bool
wrong_neighbor here before h (Lan level priority listed) = false
wrong_neighbor here before h (P2p t) =
    wrong_id here t.ids
    && not (excused (requests h.restart) (is_up before) (wrong_system here.own t.ids) here.restarting)

-- LAN: UP if our MAC is in a type 6 TLV, else INIT
abbrev pub lan_step : Bool → Phase
lan_step listed = cond listed UpPhase InitPhase

-- P2P, by RFC 5303, 3.2: no record: Down gives INIT, Initializing gives UP, Up gives no record; INIT: Down gives INIT, else UP; UP: Down
-- gives INIT, else UP
abbrev pub p2p_step : Phase → ThreeWayState → Phase
p2p_step Gone Down = InitPhase
p2p_step Gone Initializing = UpPhase
p2p_step Gone Up = Gone
p2p_step InitPhase Down = InitPhase
p2p_step InitPhase Initializing = UpPhase
p2p_step InitPhase Up = UpPhase
p2p_step UpPhase Down = InitPhase
p2p_step UpPhase Initializing = UpPhase
p2p_step UpPhase Up = UpPhase

-- in Restarting mode no record steps as INIT does
abbrev pub as_init : Phase → Phase
as_init Gone = InitPhase
as_init InitPhase = InitPhase
as_init UpPhase = UpPhase

-- .. and a wrong Neighbor Extended Circuit ID that isn't refused gives INIT (RFC 8706, 3.3.1)
abbrev pub three_way_step : Bool → Bool → Phase → ThreeWayState → Phase
three_way_step restarting wrong before state = cond restarting (cond wrong InitPhase (p2p_step (as_init before) state)) (p2p_step before state)

unfoldable pub link_step : Here → Phase → Link → Phase
link_step here before (Lan level priority listed) = lan_step listed
link_step here before (P2p t) = three_way_step here.restarting (wrong_circuit here.circuit t.ids) before t.state

-- with RR set and the record UP before, nothing here applies: it stays UP
unfoldable pub kept_up : RestartTlv → Phase → Bool
kept_up r before = requests r && is_up before

unfoldable pub step_of : Here → Phase → Hello → Phase
step_of here before h = cond (kept_up h.restart before) UpPhase (link_step here before h.link)

-- document 02, W-201, "each record becoming UP": it stood as INIT, or not at all, before the frame, and is UP after it
unfoldable pub rises : Phase → Phase → Bool
rises before after = is_up after && not (is_up before)
