-- What an accepted hello says to the timers of a router that restarts or starts (document 01, "Timers while Restarting"; RFC 8706, 3.3.1 and 3.3.2).
use Rattle.std.specs.Prelude.{ℕ, Bool, true, false, cond, ◌&&◌, eqb, Option, Some, None}
use Rattle.basics.specs.Octets.{has_bits}
use Rattle.restart_tlv.specs.Flags.{RA}
use Rattle.restart_tlv.specs.declared.flags.Flags.{Flags}
use Rattle.restart_tlv.specs.declared.reader.RestartTlv.{RestartTlv}
use Rattle.restart_tlv.specs.declared.reader.RestartTlv.TheVariants.{Absent, Ignored, Present}
use Rattle.hello.specs.declared.three_way.ThreeWayState.{ThreeWayState}
use Rattle.hello.specs.declared.three_way.ThreeWayState.TheVariants.{Up, Initializing, Down}
use Rattle.hello.specs.declared.three_way.Identifiers.{Identifiers}
use Rattle.hello.specs.declared.three_way.Identifiers.TheVariants.{Absent as NoIdentifiers, Own, Neighbor as NeighborOnly, Whole}
use Rattle.hello.specs.declared.read.Link.{Link}
use Rattle.hello.specs.declared.read.Link.TheVariants.{Lan, P2p}
use Rattle.hello.specs.declared.read.Hello.{Hello}
use Rattle.timer_parts.specs.declared.heard.Heard.{Heard}
use Rattle.timer_parts.specs.declared.heard.Heard.TheVariants.{WithoutTlv, Acknowledged, Plain}

abbrev pub says_up : ThreeWayState → Bool
says_up Up = true
says_up Initializing = false
says_up Down = false

-- "showing us Up (three-way state 0, or our MAC listed)"
abbrev pub shows_up : Link → Bool
shows_up (Lan level priority listed) = listed
shows_up (P2p said) = says_up said.state

-- the Restarting Neighbor System ID is ours
abbrev pub names_system : ℕ → Option ℕ → Bool
names_system system None = false
names_system system (Some named) = eqb named system

-- ".. on a LAN only if it names us": on P2P whoever it names
abbrev pub addressed : ℕ → Link → Option ℕ → Bool
addressed system (Lan level priority listed) neighbor = names_system system neighbor
addressed system (P2p said) neighbor = true

-- "An acknowledgement is RA ..": of the flags that count
unfoldable pub acknowledges : ℕ → Link → Flags → Option ℕ → Bool
acknowledges system link flags neighbor = has_bits flags.bits RA && addressed system link neighbor

unfoldable pub heard_tlv : ℕ → Link → Flags → ℕ → Option ℕ → Heard
heard_tlv system link flags time neighbor = cond (acknowledges system link flags neighbor) (Acknowledged (shows_up link) time) Plain

-- the Neighbor Extended Circuit ID is present and our own
abbrev pub names_circuit : ℕ → Identifiers → Bool
names_circuit circuit NoIdentifiers = false
names_circuit circuit (Own theirs) = false
names_circuit circuit (NeighborOnly theirs system) = false
names_circuit circuit (Whole theirs system named) = eqb named circuit

-- No Restart TLV. RFC 8706, 3.3.1: on a LAN this is unremarkable; on P2P the neighbour is not restart capable, and will
-- reinitialise the adjacency but where its three-way state is Up and the Neighbor Extended Circuit ID is our own.
unfoldable pub heard_without_tlv : ℕ → Link → Heard
heard_without_tlv circuit (Lan level priority listed) = Plain
heard_without_tlv circuit (P2p said) = WithoutTlv (says_up said.state && names_circuit circuit said.ids)

-- a hello on a circuit, with our own System ID and our own extended circuit ID there. RFC 8706, 3.2: a TLV with flags that may
-- not stand together is ignored, but it came.
unfoldable pub heard_of : ℕ → ℕ → Hello → Heard
heard_of system circuit hello = by hello.restart
  where
    by : RestartTlv → Heard
    by Absent = heard_without_tlv circuit hello.link
    by Ignored = Plain
    by (Present flags time neighbor) = heard_tlv system hello.link flags time neighbor
