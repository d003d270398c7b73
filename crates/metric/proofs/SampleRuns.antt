-- Document 01, "Sample runs", C10, of a P2P circuit with an UP record.
use Prim.Native.Nat.{ℕ}
use mathlib.Core.Path.{◌≡◌, refl}
use mathlib.Core.Bool.{Bool, true, false}
use Rattle.basics.specs.declared.kind.CircuitKind.TheVariants.{P2p}
use Rattle.adjacency.specs.declared.record.State.TheVariants.{Up}
use Rattle.adjacency.specs.declared.record.Mark.TheVariants.{Clear}
use Rattle.metric.specs.Metric.{held_to, link_metric}
use Rattle.std.specs.Prelude.{Option, Some}
use Rattle.adjacency.specs.declared.record.State.{State}

-- an UP record whose last frame had this offset, without or with U
abbrev asking : ℕ → Bool → Option State
asking offset unreachable =
    Some
    (Up (record { expiry = 100; suppressed = false; last = record { priority = 0; tlv = false; reverse = Some (record { offset = offset; whole = false; unreachable = unreachable }) } }) Clear)

pub c10 : (link_metric P2p 10 (asking 5 false) ≡ 15)
    × (link_metric P2p 16_777_210 (asking 10 false) ≡ 16_777_214)
    × (link_metric P2p 16_777_210 (asking 10 true) ≡ 16_777_215)
unfolding held_to
c10 = (refl, refl, refl)
