-- Each circuit is the one that its settings give.
use Rattle.std.proofs.Common.{◌≡◌, ℕ, suc, ◌<◌, List, [], ◌∷◌, length, get_or, map, refl, arith, rules}
use Rattle.basics.specs.Mask.{circuits}
use Rattle.gateway.specs.Given.{circuit_given}
use Rattle.gateway.proofs.config.circuits_given.Goals as goal

mapped : {A B : Type 0} (f : A → B) (xs : List A) (ys : List B) → length xs ≡ length ys
    → ((i : ℕ) (d : A) (e : B) → i < length xs → get_or ys i e ≡ f (get_or xs i d)) → ys ≡ map f xs
mapped f [] [] l h = refl
mapped f [] (y ∷ ys) l h = absurd (omega arith)
mapped f (x ∷ xs) [] l h = absurd (omega arith)
mapped f (x ∷ xs) (y ∷ ys) l h = cc (h 0 x y (omega arith), mapped f xs ys (omega arith) (λ i d e lt. h (suc i) d e (omega arith)))

pub returns : goal.returns
returns c =
    let all = c.args.all in
    let la : length all ≡ circuits = search rules in
    let lr : length c.map.result ≡ circuits = c.map.ensures.items.long in
    mapped circuit_given all c.map.result (omega arith) (λ i d e lt. let h = c.map.ensures.items.at i d e (omega arith) in search rules)
