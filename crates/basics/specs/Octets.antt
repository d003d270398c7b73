-- Octets and the numbers that they make. Positions count from 0 here; octet n of the standards stands at position n - 1.
use Rattle.std.specs.Prelude.{ℕ, zero, suc, ◌+◌, ◌*◌, ◌/◌, ◌%◌, ◌<◌, ◌≡◌, List, [], ◌∷◌, ◌++◌, Bool, get_or, eqb}
use Rattle.std.specs.Int.Bits.{bit_and}

-- the octet at a position
abbrev pub octet : List ℕ → ℕ → ℕ
octet s at = get_or s at 0

-- n octets from a position on as a number. Document 01, "Hello frames": numbers are big-endian.
unfoldable pub big : ℕ → List ℕ → ℕ → ℕ
big zero s at = 0
big (suc n) s at = big n s at * 256 + octet s (at + n)

-- the same octets, the first lowest: what the machine loads at once. No document has this order, and no caller's contract.
unfoldable pub little : ℕ → List ℕ → ℕ → ℕ
little zero s at = 0
little (suc n) s at = octet s at + 256 * little n s (at + 1)

-- a number as n octets, the other way round: what does not fit is lost
unfoldable pub octets_of : ℕ → ℕ → List ℕ
octets_of zero x = []
octets_of (suc n) x = octets_of n (x / 256) ++ x % 256 ∷ []

-- each bit of the mask m is set in the octet x
unfoldable pub has_bits : ℕ → ℕ → Bool
has_bits x m = eqb (bit_and x m) m

-- r is the octet x
pub record Octet (x r : ℕ) : Type 0 where
  pub is : r ≡ x
  pub below : r < 256
