-- The invariant of both loops: the MAC is not among those before octet i of the PDU. The laws `by-eight` and `by_one` go one turn on.
use Rattle.std.proofs.Common.{◌≡◌, ℕ, ◌+◌, ◌-◌, ◌/◌, ◌%◌, ◌≤◌, Bool, false, List, sym, refl, ◌∙◌, arith}
use lib.Dec.{eqb}
use Rattle.basics.specs.Octets.{octet, big}
use Rattle.tlv.specs.Tlv.{value_at, next_at}
use Rattle.tlv.proofs.TlvLaws.{value-length}
use Rattle.neighbours.proofs.SearchLaws.{by_one, by-eight, listed_more}
use Rattle.neighbours.specs.Neighbours.{listed_to}
use Rattle.neighbours.specs.Search.{eight_at}
use Rattle.neighbours.proofs.search.is_among.Goals as goal

-- A turn: the MAC is among those up to its end just where it is one of the eight at hand, or the one.
module _ (mac : ℕ) (s : List ℕ) (at i : ℕ) (whole : (i - at) % 6 ≡ 0) (after : at ≤ i) (so : listed_to mac (value_at s at) ((i - at) / 6) ≡ false) where
  eight_on : (r : Bool) → i + 50 ≤ next_at s at → r ≡ eight_at s i mac → listed_to mac (value_at s at) ((i + 48 - at) / 6) ≡ r
  eight_on r room e =
      by-eight mac s (at + 2) (octet s (at + 1)) ((i - at) / 6) _ i (omega arith) (omega arith) (omega arith) ∙ rw (so, ← e)

  one_on : (r : Bool) → i + 8 ≤ next_at s at → r ≡ eqb (big 6 s (i + 2)) mac → listed_to mac (value_at s at) ((i + 6 - at) / 6) ≡ r
  one_on r room e =
      by_one mac s (at + 2) (octet s (at + 1)) ((i - at) / 6) _ i (omega arith) (omega arith) (omega arith) ∙ rw (so, ← e)

pub loop-i-init : goal.loop-i-init
unfolding listed_to
loop-i-init c =
    let z : (c.args.at - c.args.at) / 6 ≡ 0 = omega arith in
    (omega arith, omega arith, omega arith, rw z refl)

pub returns-then-one_of_eight : goal.returns-then-one_of_eight
returns-then-one_of_eight c =
    let a = c.args in
    let l = c.loop-i in
    let turn = eight_on a.mac a.pdu.now a.at l.i l.invariant.0 l.invariant.1 l.invariant.3 _ (omega arith) c.one_of_eight.ensures in
    sym (listed_more _ _ _ _ (omega (arith, value-length a.pdu.now a.at (omega (arith, c.requires.1)))) (turn ∙ c.if-one_of_eight.true))

pub loop-i-preserved : goal.loop-i-preserved
loop-i-preserved c =
    let a = c.args in
    let l = c.loop-i in
    let turn = eight_on a.mac a.pdu.now a.at l.i l.invariant.0 l.invariant.1 l.invariant.3 _ (omega arith) c.one_of_eight.ensures in
    (omega arith, omega arith, omega arith, turn ∙ c.if-one_of_eight.false)

pub returns-then-is_at : goal.returns-then-is_at
returns-then-is_at c =
    let a = c.args in
    let l = c.loop-i-2 in
    let turn = one_on a.mac a.pdu.now a.at l.i l.invariant.0 l.invariant.1 l.invariant.3 _ (omega arith) c.is_at.ensures in
    sym (listed_more _ _ _ _ (omega (arith, value-length a.pdu.now a.at (omega (arith, c.requires.1)))) (turn ∙ c.if-is_at.true))

pub loop-i-2-preserved : goal.loop-i-2-preserved
loop-i-2-preserved c =
    let a = c.args in
    let l = c.loop-i-2 in
    let turn = one_on a.mac a.pdu.now a.at l.i l.invariant.0 l.invariant.1 l.invariant.3 _ (omega arith) c.is_at.ensures in
    (omega arith, omega arith, omega arith, turn ∙ c.if-is_at.false)
