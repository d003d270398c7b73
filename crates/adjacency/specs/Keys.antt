-- What a record is known by (document 01, "What the gateway holds": "A LAN record is known by level, System ID and source MAC; a P2P
-- record by System ID.").
use Rattle.std.specs.Prelude.{ℕ, Bool, ◌&&◌, eqb}
use Rattle.basics.specs.declared.kind.CircuitKind.{CircuitKind}
use Rattle.basics.specs.declared.kind.CircuitKind.TheVariants.{Lan as LanCircuit, P2p as P2pCircuit}
use Rattle.hello.specs.declared.read.Hello.{Hello}
use Rattle.hello.specs.declared.read.Link.{Link}
use Rattle.hello.specs.declared.read.Link.TheVariants.{Lan, P2p}
use Rattle.adjacency.specs.declared.record.Key.{Key}

unfoldable pub same_key : Key → Key → Bool
same_key a b = eqb a.system b.system && (eqb a.mac b.mac && eqb a.level b.level)

-- the key on a circuit: a P2P record's level and MAC are 0
unfoldable pub key_on : CircuitKind → Key → Key
key_on LanCircuit k = k
key_on P2pCircuit k = record { level = 0; system = k.system; mac = 0 }

-- of a frame
abbrev pub level_in : Link → ℕ
level_in (Lan level priority listed) = level
level_in (P2p t) = 0

abbrev pub key_in : CircuitKind → ℕ → Hello → Key
key_in kind mac h = key_on kind (record { level = level_in h.link; system = h.system; mac = mac })
