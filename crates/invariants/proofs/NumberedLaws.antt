-- A property of each element by its place, from 0, or by its number, from 1, of a list that goes on as d past its end: one element renewed keeps
-- it, and so does a map whose function does.
use Prim.Native.Nat.{ℕ, zero, suc}
use mathlib.Core.List.{List, [], ◌∷◌, map}
use lib.ListN.{get_or, set}
use Rattle.model.specs.Gateway.{numbered, renew}

module _ {A : Type 0} (d : A) where
  pub set_all : (P : ℕ → A → Type 0) (l : List A) (i : ℕ) (v : A) → ((m : ℕ) → P m (get_or l m d)) → P i v → (m : ℕ) → P m (get_or (set l i v) m d)
  set_all P [] i v h p m = h m
  set_all P (x ∷ l) zero v h p zero = p
  set_all P (x ∷ l) zero v h p (suc m) = h (suc m)
  set_all P (x ∷ l) (suc i) v h p zero = h zero
  set_all P (x ∷ l) (suc i) v h p (suc m) = set_all (λ k. P (suc k)) l i v (λ k. h (suc k)) p m

  pub renew-all : (P : ℕ → A → Type 0) (l : List A) (n : ℕ) (v : A) → ((m : ℕ) → P m (numbered l m d)) → P n v
      → (m : ℕ) → P m (numbered (renew l n v) m d)
  unfolding numbered renew
  renew-all P l zero v h p m = h m
  renew-all P l (suc i) v h p zero = h zero
  renew-all P l (suc i) v h p (suc m) = set_all (λ k. P (suc k)) l i v (λ k. h (suc k)) p m

  pub map-all : (P : ℕ → A → Type 0) (f : A → A) → ((m : ℕ) (x : A) → P m x → P m (f x)) → (l : List A) → ((m : ℕ) → P m (get_or l m d))
      → (m : ℕ) → P m (get_or (map f l) m d)
  map-all P f k [] h m = h m
  map-all P f k (x ∷ l) h zero = k zero x (h zero)
  map-all P f k (x ∷ l) h (suc m) = map-all (λ j. P (suc j)) f (λ j. k (suc j)) l (λ j. h (suc j)) m
