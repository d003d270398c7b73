-- Lists numbered from 1: two of one length, with an element renewed in each. The laws of `numbered` and `renew`; no proof about a
-- gateway unfolds them.
use Prim.Native.Nat.{ℕ, zero, suc, ◌≤◌, ◌<◌}
use mathlib.Core.Path.{◌≡◌, refl, ap}
use mathlib.Core.Logic.{◌≢◌}
use mathlib.Core.List.{List, [], ◌∷◌, map}
use native.Mathlib.Omega.{arith}
use lib.ListN.{length, get_or, set, length-set, get_or-map}
use lib.Seq.{set-get_or, ext_get_or, get_or-set_same, get_or-set_other, set-set, set_comm}
use Rattle.model.specs.Gateway.{numbered, renew}

set_both : {A : Type 0} (R : A → A → Type 0) (d v₁ v₂ : A) → R d d → (l₁ l₂ : List A) (i j : ℕ) → length l₁ ≡ length l₂
    → (i ≢ j → R (get_or l₁ j d) (get_or l₂ j d)) → (i ≡ j → R v₁ v₂) → R (get_or (set l₁ i v₁) j d) (get_or (set l₂ i v₂) j d)
set_both R d v₁ v₂ o [] [] i j e f g = o
set_both R d v₁ v₂ o [] (y ∷ ys) i j e f g = absurd (omega arith)
set_both R d v₁ v₂ o (x ∷ xs) [] i j e f g = absurd (omega arith)
set_both R d v₁ v₂ o (x ∷ xs) (y ∷ ys) zero zero e f g = g refl
set_both R d v₁ v₂ o (x ∷ xs) (y ∷ ys) zero (suc j) e f g = f (λ q. omega arith)
set_both R d v₁ v₂ o (x ∷ xs) (y ∷ ys) (suc i) zero e f g = f (λ q. omega arith)
set_both R d v₁ v₂ o (x ∷ xs) (y ∷ ys) (suc i) (suc j) e f g =
    set_both R d v₁ v₂ o xs ys i j (omega arith) (λ n. f (λ q. n (omega arith))) (λ q. g (ap suc q))

pub renew-both : {A : Type 0} (R : A → A → Type 0) (d v₁ v₂ : A) → R d d → (l₁ l₂ : List A) (i j : ℕ) → length l₁ ≡ length l₂
    → (i ≢ j → R (numbered l₁ j d) (numbered l₂ j d)) → (i ≡ j → R v₁ v₂)
    → R (numbered (renew l₁ i v₁) j d) (numbered (renew l₂ i v₂) j d)
unfolding numbered renew
renew-both R d v₁ v₂ o l₁ l₂ i zero e f g = o
renew-both R d v₁ v₂ o l₁ l₂ zero (suc j) e f g = f (λ q. omega arith)
renew-both R d v₁ v₂ o l₁ l₂ (suc i) (suc j) e f g =
    set_both R d v₁ v₂ o l₁ l₂ i j e (λ n. f (λ q. n (omega arith))) (λ q. g (ap suc q))

pub length-renew : {A : Type 0} (l : List A) (n : ℕ) (v : A) → length (renew l n v) ≡ length l
unfolding renew
length-renew l zero v = refl
length-renew l (suc i) v = length-set l i v

pub renew-numbered : {A : Type 0} (l : List A) (n : ℕ) (d : A) → renew l n (numbered l n d) ≡ l
unfolding numbered renew
renew-numbered l zero d = refl
renew-numbered l (suc i) d = set-get_or l i d

pub renew-same : {A : Type 0} (l : List A) (n : ℕ) (v d : A) → 0 < n → n ≤ length l → numbered (renew l n v) n d ≡ v
unfolding numbered renew
renew-same l zero v d p le = absurd (omega arith)
renew-same l (suc i) v d p le = get_or-set_same l i v d (omega arith)

pub renew-other : {A : Type 0} (l : List A) (n m : ℕ) (v d : A) → m ≢ n → numbered (renew l n v) m d ≡ numbered l m d
unfolding numbered renew
renew-other l n zero v d h = refl
renew-other l zero (suc j) v d h = refl
renew-other l (suc i) (suc j) v d h = get_or-set_other l i j v d (λ q. h (ap suc q))

pub renew-again : {A : Type 0} (l : List A) (n : ℕ) (v w : A) → renew (renew l n v) n w ≡ renew l n w
unfolding renew
renew-again l zero v w = refl
renew-again l (suc i) v w = set-set l i v w

pub renew-swap : {A : Type 0} (l : List A) (n m : ℕ) (v w : A) → n ≢ m → renew (renew l n v) m w ≡ renew (renew l m w) n v
unfolding renew
renew-swap l zero m v w h = refl
renew-swap l (suc i) zero v w h = refl
renew-swap l (suc i) (suc j) v w h = set_comm l i j v w (λ q. h (ap suc q))

pub numbered-map : {A B : Type 0} (f : A → B) (l : List A) (n : ℕ) (d : A) → numbered (map f l) n (f d) ≡ f (numbered l n d)
unfolding numbered
numbered-map f l zero d = refl
numbered-map f l (suc i) d = get_or-map f l i d

pub ext-numbered : {A : Type 0} (d : A) (l₁ l₂ : List A) → length l₁ ≡ length l₂ → ((n : ℕ) → numbered l₁ n d ≡ numbered l₂ n d)
    → l₁ ≡ l₂
unfolding numbered
ext-numbered d l₁ l₂ e h = ext_get_or d l₁ l₂ e (λ i n. h (suc i))
