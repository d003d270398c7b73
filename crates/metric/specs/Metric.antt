-- The link metric (document 01, "Link metric"; RFC 8500, 3.1).
use Rattle.std.specs.Prelude.{ℕ, ◌+◌, Bool, cond, leb, Option, Some, None}
use Rattle.basics.specs.declared.kind.CircuitKind.{CircuitKind}
use Rattle.basics.specs.declared.kind.CircuitKind.TheVariants.{Lan, P2p}
use Rattle.adjacency.specs.declared.record.State.{State}
use Rattle.adjacency.specs.declared.record.State.TheVariants.{Init, Up}
use Rattle.hello.specs.declared.reverse.ReverseMetric.{ReverseMetric}

-- a sum held to a limit
unfoldable pub held_to : ℕ → ℕ → ℕ
held_to limit n = cond (leb n limit) n limit

-- held to 16,777,214, or 16,777,215 with U
abbrev pub limit_of : Bool → ℕ
limit_of unreachable = cond unreachable 16_777_215 16_777_214

-- configured + offset; W is ignored
abbrev pub raised : ℕ → Option ReverseMetric → ℕ
raised configured None = configured
raised configured (Some r) = held_to (limit_of r.unreachable) (configured + r.offset)

-- with an UP record and a reverse metric; otherwise the configured metric
abbrev pub state_metric : ℕ → State → ℕ
state_metric configured (Init d) = configured
state_metric configured (Up d m) = raised configured d.last.reverse

abbrev pub record_metric : ℕ → Option State → ℕ
record_metric configured None = configured
record_metric configured (Some s) = state_metric configured s

-- on a LAN the TLV is checked, not used
abbrev pub link_metric : CircuitKind → ℕ → Option State → ℕ
link_metric Lan configured adjacency = configured
link_metric P2p configured adjacency = record_metric configured adjacency
