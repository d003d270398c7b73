-- What the steps of the fast search find. No contract of a caller cites these.
use Rattle.std.specs.Prelude.{◌≡◌, ℕ, zero, suc, ◌+◌, ◌*◌, ◌/◌, ◌%◌, ◌<◌, Bool, ◌||◌, List, take, drop, ◌==◌}
use Rattle.basics.specs.Octets.{big}

-- octet k of a number, the lowest being octet 0
unfoldable pub digit : ℕ → ℕ → ℕ
digit zero m = m % 256
digit (suc k) m = digit k (m / 256)

-- the lowest n octets of a number, in the other order
unfoldable pub turned : ℕ → ℕ → ℕ
turned zero m = 0
turned (suc n) m = digit n m + 256 * turned n m

-- m is a number of six octets, and the search compares with x: 65536 times its octets, the first lowest
abbrev pub SoughtAs : ℕ → ℕ → Type 0
SoughtAs m x = (m < 281474976710656) × (x ≡ 65536 * turned 6 m)

-- the n octets of a PDU from a position on
abbrev pub part : List ℕ → ℕ → ℕ → List ℕ
part s from n = take n (drop from s)

-- one of the four MACs two octets past a position is the MAC
unfoldable pub four_at : List ℕ → ℕ → ℕ → Bool
four_at v at m =
    (big 6 v (at + 2) == m) || (big 6 v (at + 6 + 2) == m || (big 6 v (at + 12 + 2) == m || big 6 v (at + 18 + 2) == m))

-- one of the eight there is the MAC
unfoldable pub eight_at : List ℕ → ℕ → ℕ → Bool
eight_at v at m = four_at v at m || four_at v (at + 24) m
