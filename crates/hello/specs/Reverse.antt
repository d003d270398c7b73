-- The Reverse Metric TLV, type 16 (RFC 8500, 2; document 01, "TLVs read").
use Rattle.std.specs.Prelude.{ℕ, ◌-◌, List, [], ◌∷◌, Bool, not, cond, ◌||◌, length, ltb, eqb, Option, Some, None, Result, Ok, Err}
use Rattle.basics.specs.Octets.{octet, big, has_bits}
use Rattle.tlv.specs.Tlv.{Tlv, tlvs, of_type, several, unless}
use Rattle.tlv.specs.declared.tlvs.BrokenRule.{BrokenRule}
use Rattle.tlv.specs.Tlv.{broken_rule}
use Rattle.hello.specs.declared.reverse.ReverseMetric.{ReverseMetric}

-- its flags: Whole LAN and Unreachable
abbrev pub W : ℕ
W = 1

abbrev pub U : ℕ
U = 2

-- length at least 5, and the sub-TLV length is the length less 5
unfoldable pub reverse_bad : List ℕ → Bool
reverse_bad v = ltb (length v) 5 || not (eqb (octet v 4) (length v - 5))

-- Two or more: all ignored, unchecked. One: the rule.
abbrev pub reverse_fault : List Tlv → Option ℕ
reverse_fault [] = None
reverse_fault (t ∷ []) = cond (reverse_bad t.value) (Some t.at) None
reverse_fault (t ∷ u ∷ ts) = None

-- flags, metric (3), sub-TLV length, sub-TLVs. RFC 8500, 2: where sub-TLV 18 appears more than once, the entire TLV is ignored.
unfoldable pub reverse_of : List ℕ → Option ReverseMetric
reverse_of v =
    cond (several (of_type 18 (tlvs v 5))) None (Some (record { offset = big 3 v 1; whole = has_bits (octet v 0) W; unreachable = has_bits (octet v 0) U }))

-- the reverse metric if exactly one came
abbrev pub reverse_in : List Tlv → Option ReverseMetric
reverse_in [] = None
reverse_in (t ∷ []) = reverse_of t.value
reverse_in (t ∷ u ∷ ts) = None

unfoldable pub reverse_read : List Tlv → Result (Option ReverseMetric) BrokenRule
reverse_read ts = unless (reverse_fault ts) (Ok (reverse_in ts)) (Err broken_rule)
