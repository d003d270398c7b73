-- The Restart TLV, type 211, read and written (RFC 8706, 3.2; document 01, "TLVs read" and "Marks and holding time").
use Rattle.std.specs.Prelude.{ℕ, List, [], ◌∷◌, ◌++◌, Bool, cond, ◌||◌, length, ltb, Option, Some, None, Result, Ok, Err}
use Rattle.basics.specs.Octets.{octet, big, has_bits, octets_of}
use Rattle.tlv.specs.Tlv.{Tlv, lone_fault, unless}
use Rattle.restart_tlv.specs.Flags.{RA, PA, PR, counted, invalid, needs_neighbor, needs_time}
use Rattle.restart_tlv.specs.declared.writer.Ack.{Ack}
use Rattle.restart_tlv.specs.declared.writer.Ack.TheVariants.{Restart, Planned}
use Rattle.restart_tlv.specs.declared.reader.RestartTlv.{RestartTlv}
use Rattle.restart_tlv.specs.declared.reader.RestartTlv.TheVariants.{Absent, Ignored, Present}
use Rattle.tlv.specs.declared.tlvs.BrokenRule.{BrokenRule}
use Rattle.tlv.specs.Tlv.{broken_rule}

-- House (document 01, "TLVs read"), over RFC 8706, 3.2: length 1 to 9; at least 3 with PR; 9 with RA or PA
unfoldable pub least_length : ℕ → ℕ
least_length f = cond (needs_neighbor f) 9 (cond (has_bits f PR) 3 1)

unfoldable pub restart_bad : List ℕ → Bool
restart_bad v = ltb (length v) 1 || (ltb 9 (length v) || ltb (length v) (least_length (octet v 0)))

-- the first Restart TLV that breaks a rule: its length, or (house) that there is at most one
abbrev pub restart_fault : List Tlv → Option ℕ
restart_fault ts = lone_fault restart_bad ts

-- flags, Remaining Time (2), Restarting Neighbor System ID (6); f is the flags that count. Document 01, "TLVs read": fields not
-- required are ignored. RFC 8706, 3.2: TLVs that have invalid flag combinations set are ignored.
unfoldable pub time_of : ℕ → List ℕ → ℕ
time_of f v = cond (needs_time f) (big 2 v 1) 0

unfoldable pub neighbor_of : ℕ → List ℕ → Option ℕ
neighbor_of f v = cond (needs_neighbor f) (Some (big 6 v 3)) None

unfoldable pub restart_with : ℕ → List ℕ → RestartTlv
restart_with f v = cond (invalid f) Ignored (Present (record { bits = f }) (time_of f v) (neighbor_of f v))

abbrev pub restart_of : List ℕ → RestartTlv
restart_of v = restart_with (counted (octet v 0)) v

-- the Restart TLV of a frame, by its TLVs of that type
abbrev pub restart_in : List Tlv → RestartTlv
restart_in [] = Absent
restart_in (t ∷ ts) = restart_of t.value

unfoldable pub restart_read : List Tlv → Result RestartTlv BrokenRule
restart_read ts = unless (restart_fault ts) (Ok (restart_in ts)) (Err broken_rule)

-- Document 01, "Marks and holding time": the reply is 11 octets: 211, 9, RA or PA alone, Remaining Time, System ID
abbrev pub ack_flag : Ack → ℕ
ack_flag Restart = RA
ack_flag Planned = PA

unfoldable pub restart_octets : ℕ → ℕ → ℕ → List ℕ
restart_octets f time system = 211 ∷ 9 ∷ f ∷ octets_of 2 time ++ octets_of 6 system
