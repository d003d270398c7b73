-- Lists: tests of their elements, values of a function, and a part.
use Rattle.std.specs.Prelude.{ℕ, zero, suc, Bool, true, false, ◌&&◌, ◌||◌, List, [], ◌∷◌, take, drop}

-- the test is true of every element, and of some element
unfoldable pub every : {A : Type 0} → (A → Bool) → List A → Bool
every p [] = true
every p (x ∷ xs) = p x && every p xs

unfoldable pub some : {A : Type 0} → (A → Bool) → List A → Bool
some p [] = false
some p (x ∷ xs) = p x || some p xs

-- the values of f at 0 .. n-1
abbrev pub tabulate : {A : Type 0} → (ℕ → A) → ℕ → List A
tabulate f zero = []
tabulate f (suc n) = f zero ∷ tabulate (λ i. f (suc i)) n

-- k elements from a on
abbrev pub part : {A : Type 0} → ℕ → ℕ → List A → List A
part a k l = take k (drop a l)
