-- The MACs of an IS Neighbours TLV of a LAN hello, type 6 (ISO/IEC 10589, 9.5; document 01, "TLVs read"): each six octets
-- of its value are one.
use Rattle.std.specs.Prelude.{ℕ, zero, suc, ◌*◌, ◌/◌, Bool, false, ◌||◌, List, length, ◌==◌}
use Rattle.basics.specs.Octets.{big}

-- the MAC m is among the first n of the value v
unfoldable pub listed_to : ℕ → List ℕ → ℕ → Bool
listed_to m v zero = false
listed_to m v (suc n) = listed_to m v n || big 6 v (6 * n) == m

-- it is among all of them
abbrev pub listed_in : ℕ → List ℕ → Bool
listed_in m v = listed_to m v (length v / 6)
