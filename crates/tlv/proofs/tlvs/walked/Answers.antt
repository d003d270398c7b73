-- The invariant: what is left to walk is cut where the whole is, and each type is counted so far.
use Rattle.tlv.proofs.TlvLaws.{walk-cut, walk-whole, cut-end, cut-here, cut-one, one_if, one-here, one-not, count-one, count-le, none, next-none, next-some}
use Rattle.tlv.specs.Tlv.{tlvs, cut_at, next_at, of_type}
use Rattle.basics.specs.Octets.{octet}
use lib.ListN.{length}
use lib.Dec.{leb}
use native.Mathlib.Omega.{arith}
use mathlib.Core.Path.{◌≡◌, refl, ap, ◌∙◌}
use mathlib.Core.Bool.{cond}
use mathlib.Core.List.{List}
use Prim.Native.Nat.{ℕ, ◌+◌, ◌<◌, ◌≤◌}
use Rattle.std.specs.Prelude.{Some, None}
use Rattle.tlv.proofs.tlvs.walked.Invariants.{Counted}
use Rattle.tlv.proofs.tlvs.walked.Goals as goal

module _ (s : List ℕ) (from at next k : ℕ) (lt : at < length s) (e : Some next ≡ cond (leb (next_at s at) (length s)) (Some (next_at s at)) None) (is : octet s at ≡ k) where
  same_if : (j : ℕ) → one_if (octet s at) j ≡ one_if k j
  same_if j = rw is

  -- A turn keeps the invariant, where each count grows by one if the TLV at hand is of its type.
  kept : (a b c d a' b' c' d' : ℕ)
      → (cut_at (tlvs s from) ≡ cut_at (tlvs s at)) × Counted s from at 6 a × Counted s from at 16 b × Counted s from at 211 c × Counted s from at 240 d
      → a' ≡ a + one_if k 6 → b' ≡ b + one_if k 16 → c' ≡ c + one_if k 211 → d' ≡ d + one_if k 240
      → (cut_at (tlvs s from) ≡ cut_at (tlvs s next)) × Counted s from next 6 a' × Counted s from next 16 b' × Counted s from next 211 c' × Counted s from next 240 d'
  kept a b c d a' b' c' d' i p q r t =
      let n = next-some s at next e in
      let turn = count-one s at lt n.1 in
      rw n.0 (i.0 ∙ cut-one s at lt n.1, omega (arith, turn 6, same_if 6), omega (arith, turn 16, same_if 16), omega (arith, turn 211, same_if 211), omega (arith, turn 240, same_if 240))

  -- No count passes the PDU's length while a TLV of its type is at hand.
  room_for : (n : ℕ) → Counted s from at k n → n + 1 ≤ length s
  room_for n i = omega (arith, count-one s at lt (next-some s at next e).1 k, one-here (octet s at) k is, count-le k s from)

pub returns-in_default : goal.returns-in_default
returns-in_default c = walk-cut _ _ (c.loop-at.invariant.0 ∙ cut-here _ _ c.loop-at-test.true (next-none _ _ c.in_default.ensures))

pub overflow_add-counts : goal.overflow_add-counts
overflow_add-counts c = omega (arith, room_for c.args.pdu.now c.args.from c.loop-at.at _ 6 c.loop-at-test.true c.in-Some.ensures c.in-6.is _ c.loop-at.invariant.1)

pub overflow_add-counts-in-16 : goal.overflow_add-counts-in-16
overflow_add-counts-in-16 c = omega (arith, room_for c.args.pdu.now c.args.from c.loop-at.at _ 16 c.loop-at-test.true c.in-Some.ensures c.in-16.is _ c.loop-at.invariant.2)

pub overflow_add-counts-in-211 : goal.overflow_add-counts-in-211
overflow_add-counts-in-211 c = omega (arith, room_for c.args.pdu.now c.args.from c.loop-at.at _ 211 c.loop-at-test.true c.in-Some.ensures c.in-211.is _ c.loop-at.invariant.3)

pub overflow_add-counts-in-240 : goal.overflow_add-counts-in-240
overflow_add-counts-in-240 c = omega (arith, room_for c.args.pdu.now c.args.from c.loop-at.at _ 240 c.loop-at-test.true c.in-Some.ensures c.in-240.is _ c.loop-at.invariant.4)

pub loop-at-preserved-in-6 : goal.loop-at-preserved-in-6
loop-at-preserved-in-6 c =
    kept _ _ _ _ 6 c.loop-at-test.true c.in-Some.ensures c.in-6.is _ _ _ _ _ _ _ _ c.loop-at.invariant (omega arith) (omega arith) (omega arith) (omega arith)

pub loop-at-preserved-in-16 : goal.loop-at-preserved-in-16
loop-at-preserved-in-16 c =
    kept _ _ _ _ 16 c.loop-at-test.true c.in-Some.ensures c.in-16.is _ _ _ _ _ _ _ _ c.loop-at.invariant (omega arith) (omega arith) (omega arith) (omega arith)

pub loop-at-preserved-in-211 : goal.loop-at-preserved-in-211
loop-at-preserved-in-211 c =
    kept _ _ _ _ 211 c.loop-at-test.true c.in-Some.ensures c.in-211.is _ _ _ _ _ _ _ _ c.loop-at.invariant (omega arith) (omega arith) (omega arith) (omega arith)

pub loop-at-preserved-in-240 : goal.loop-at-preserved-in-240
loop-at-preserved-in-240 c =
    kept _ _ _ _ 240 c.loop-at-test.true c.in-Some.ensures c.in-240.is _ _ _ _ _ _ _ _ c.loop-at.invariant (omega arith) (omega arith) (omega arith) (omega arith)

pub loop-at-preserved : goal.loop-at-preserved
loop-at-preserved c =
    let k = octet c.args.pdu.now c.loop-at.at in
    kept _ _ _ _ k c.loop-at-test.true c.in-Some.ensures refl _ _ _ _ _ _ _ _ c.loop-at.invariant (omega (arith, one-not k 6 (λ (e : k ≡ 6). omega arith)))
    (omega (arith, one-not k 16 (λ (e : k ≡ 16). omega arith))) (omega (arith, one-not k 211 (λ (e : k ≡ 211). omega arith))) (omega (arith, one-not k 240 (λ (e : k ≡ 240). omega arith)))

pub returns : goal.returns
returns c =
    let l = c.loop-at in
    let s = c.args.pdu.now in
    let f = c.args.from in
    let q : length s ≤ l.at = c.loop-at-test.false in
    let a : l.counts.neighbours ≡ length (of_type 6 (tlvs s f)) = omega (arith, ap length (none s l.at 6 q)) in
    let b : l.counts.reverse ≡ length (of_type 16 (tlvs s f)) = omega (arith, ap length (none s l.at 16 q)) in
    let d : l.counts.restart ≡ length (of_type 211 (tlvs s f)) = omega (arith, ap length (none s l.at 211 q)) in
    let e : l.counts.threeway ≡ length (of_type 240 (tlvs s f)) = omega (arith, ap length (none s l.at 240 q)) in
    walk-whole _ _ (l.invariant.0 ∙ cut-end s l.at q) (rw (← a, ← b, ← d, ← e))
