-- The Point-to-Point Three-Way Adjacency TLV, type 240 (RFC 5303, 3.1; document 01, "TLVs read"), of P2P hellos.
use Rattle.std.specs.Prelude.{ℕ, List, [], ◌∷◌, Bool, not, cond, ◌||◌, length, ltb, eqb, Option, Some, Result, Ok, Err}
use Rattle.basics.specs.Octets.{octet, big}
use Rattle.tlv.specs.Tlv.{Tlv, lone_fault, first_value, unless}
use Rattle.hello.specs.declared.three_way.ThreeWayState.{ThreeWayState}
use Rattle.hello.specs.declared.three_way.ThreeWayState.TheVariants.{Up, Initializing, Down}
use Rattle.hello.specs.declared.three_way.Identifiers.{Identifiers}
use Rattle.hello.specs.declared.three_way.Identifiers.TheVariants.{Absent, Own, Neighbor, Whole}
use Rattle.hello.specs.declared.three_way.ThreeWay.{ThreeWay}
use Rattle.tlv.specs.declared.tlvs.BrokenRule.{BrokenRule}
use Rattle.tlv.specs.Tlv.{broken_rule}

-- length 1, 5, 11 or 15
unfoldable pub three_way_length : ℕ → Bool
three_way_length n = eqb n 1 || (eqb n 5 || (eqb n 11 || eqb n 15))

-- state 0 Up, 1 Initializing, 2 Down, no other
unfoldable pub three_way_bad : List ℕ → Bool
three_way_bad v = not (three_way_length (length v)) || ltb 2 (octet v 0)

-- House: exactly one. The first that breaks a rule; where none came, the place past the last octet of the PDU.
abbrev pub three_way_fault : ℕ → List Tlv → Option ℕ
three_way_fault end [] = Some end
three_way_fault end (t ∷ ts) = lone_fault three_way_bad (t ∷ ts)

unfoldable pub state_of : ℕ → ThreeWayState
state_of n = cond (eqb n 0) Up (cond (eqb n 1) Initializing Down)

-- own extended circuit ID (4), Neighbor System ID (6), Neighbor Extended Circuit ID (4), as far as the length goes
unfoldable pub identifiers_of : List ℕ → Identifiers
identifiers_of v =
    cond (ltb (length v) 5) Absent
    (cond (ltb (length v) 11) (Own (big 4 v 1))
    (cond (ltb (length v) 15) (Neighbor (big 4 v 1) (big 6 v 5)) (Whole (big 4 v 1) (big 6 v 5) (big 4 v 11))))

abbrev pub three_way_of : List ℕ → ThreeWay
three_way_of v = record { state = state_of (octet v 0); ids = identifiers_of v }

abbrev pub three_way_in : List Tlv → ThreeWay
three_way_in ts = three_way_of (first_value ts)

unfoldable pub three_way_read : ℕ → List Tlv → Result ThreeWay BrokenRule
three_way_read end ts = unless (three_way_fault end ts) (Ok (three_way_in ts)) (Err broken_rule)
