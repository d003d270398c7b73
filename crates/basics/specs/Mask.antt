-- What a mask over circuits means: a Bool for each circuit, circuit 1 (the lowest digit) first; and a mask with two places for each circuit.
-- Document 01, "What the gateway holds": 1 to 8 circuits. Document 02, W-202: the count of T1s that wait, "the lowest still a circuit".
use Rattle.std.specs.Prelude.{ℕ, zero, suc, ◌+◌, ◌*◌, ◌/◌, ◌%◌, Bool, false, cond, ◌&&◌, ◌||◌, List, [], ◌∷◌, eqb, Option, Some, None}

-- the most circuits that a gateway has
abbrev pub circuits : ℕ
circuits = 8

-- the n lowest digits of m, lowest first
unfoldable pub bits_of : ℕ → ℕ → List Bool
bits_of zero m = []
bits_of (suc n) m = eqb (m % 2) 1 ∷ bits_of n (m / 2)

-- a mask's digits, one for each circuit
abbrev pub bits : ℕ → List Bool
bits m = bits_of circuits m

-- .. and two for each
abbrev pub t1_places : ℕ
t1_places = 2 * circuits

abbrev pub place_bits : ℕ → List Bool
place_bits m = bits_of t1_places m

-- how many are true
unfoldable pub count_true : List Bool → ℕ
count_true [] = 0
count_true (b ∷ bs) = cond b 1 0 + count_true bs

-- whether one is
unfoldable pub any_true : List Bool → Bool
any_true [] = false
any_true (b ∷ bs) = b || any_true bs

-- whether one is true in both
unfoldable pub any_shared : List Bool → List Bool → Bool
any_shared [] ys = false
any_shared (a ∷ xs) [] = false
any_shared (a ∷ xs) (b ∷ ys) = (a && b) || any_shared xs ys

-- the first circuit with a true one, where the list's first two are those of circuit k
unfoldable pub first_pair : List Bool → ℕ → Option ℕ
first_pair [] k = None
first_pair (a ∷ []) k = cond a (Some k) None
first_pair (a ∷ b ∷ bs) k = cond (a || b) (Some k) (first_pair bs (suc k))
