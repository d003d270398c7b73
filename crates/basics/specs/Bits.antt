-- A truth value as a digit.
use Rattle.std.specs.Prelude.{ℕ, Bool, cond}

abbrev pub bit_of : Bool → ℕ
bit_of b = cond b 1 0
