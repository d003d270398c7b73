-- The invariant: what is left to walk is cut where the whole is, and each type is counted so far.
use Rattle.tlv.specs.Tlv.{tlvs, cut_at, of_type}
use lib.ListN.{length}
use mathlib.Core.Path.{◌≡◌}
use mathlib.Core.List.{List}
use Prim.Native.Nat.{ℕ, ◌+◌, ◌-◌}
use Rattle.tlv.proofs.tlvs.walked.Given as goal

-- k is counted so far: n of them before `at`
abbrev pub Counted : List ℕ → ℕ → ℕ → ℕ → ℕ → Type 0
Counted s from at k n = length (of_type k (tlvs s from)) ≡ n + length (of_type k (tlvs s at))

abbrev pub invariant-loop-at : goal.invariant-loop-at
invariant-loop-at l =
    (cut_at (tlvs l.pdu l.from) ≡ cut_at (tlvs l.pdu l.at)) × Counted l.pdu l.from l.at 6 l.counts.neighbours × Counted l.pdu l.from l.at 16 l.counts.reverse × Counted l.pdu l.from l.at 211 l.counts.restart × Counted l.pdu l.from l.at 240 l.counts.threeway

abbrev pub decreases-loop-at : goal.decreases-loop-at
decreases-loop-at l = length l.pdu - l.at
