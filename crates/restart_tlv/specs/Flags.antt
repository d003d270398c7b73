-- The flags of the Restart TLV (RFC 8706, 3.2; document 01, "TLVs read"). The code's constants are proved equal to these.
use Rattle.std.specs.Prelude.{ℕ, ◌-◌, ◌%◌, Bool, not, cond, ◌||◌, ◌&&◌, ltb, eqb}
use Rattle.std.specs.Int.Bits.{bit_and, bit_or}
use Rattle.std.specs.Int.Count.{ones}
use Rattle.basics.specs.Octets.{has_bits}

-- RFC 8706, 3.2: Restart Request, Restart Acknowledgement, Suppress adjacency advertisement, Restart is planned, Planned
-- restart acknowledgement
abbrev pub RR : ℕ
RR = 1

abbrev pub RA : ℕ
RA = 2

abbrev pub SA : ℕ
SA = 4

abbrev pub PR : ℕ
PR = 8

abbrev pub PA : ℕ
PA = 16

-- f with the bits of m clear
unfoldable pub without : ℕ → ℕ → ℕ
without f m = f - bit_and f m

-- The flags that count, of the octet as it came. RFC 8706, 3.2: the upper three bits are reserved. House (document 01, "Marks
-- and holding time", line 1), over RFC 8706, 3.2: PR is ignored beside RR.
unfoldable pub counted : ℕ → ℕ
counted f = cond (has_bits f RR) (without (f % 32) PR) (f % 32)

-- RFC 8706, 3.2: RR and SA may both be set; all other combinations where multiple flags are set are invalid
unfoldable pub invalid : ℕ → Bool
invalid f = ltb 1 (ones f) && not (eqb f (bit_or RR SA))

-- RFC 8706, 3.2: the Restarting Neighbor System ID is required with RA or PA, the Remaining Time with RA, PR or PA
unfoldable pub needs_neighbor : ℕ → Bool
needs_neighbor f = has_bits f RA || has_bits f PA

unfoldable pub needs_time : ℕ → Bool
needs_time f = needs_neighbor f || has_bits f PR
