-- The T1s in all places, a list made of a mask's digits and of entries: what each change of the mask and of one entry does to
-- the list, and what is asked of it. Over any list of digits, and so over any width.
use Prim.Native.Nat.{ℕ, zero, suc, ◌+◌, ◌<◌, ◌≤◌}
use native.Mathlib.Numerals.{add-one}
use native.Mathlib.Omega.{arith}
use mathlib.Core.Path.{◌≡◌, refl, sym, ap, ◌∙◌}
use mathlib.Core.Bool.{Bool, false}
use mathlib.Core.Logic.{◌≢◌}
use mathlib.Core.List.{List, [], ◌∷◌, ◌++◌, map, append-nil}
use lib.ListN.{set, get_or, length, take, drop, drop_of_length-le}
use lib.Seq.{drop-cons, take-suc-set, drop-set-lt, append_snoc, take_all}
use Rattle.basics.specs.Mask.{bits_of}
use Rattle.timer_parts.specs.T1.{start_entry, stop_t1}
use Rattle.timer_parts.specs.declared.t1.Entry.{Entry}
use Rattle.timer_parts.specs.declared.t1.T1.{T1}
use Rattle.basics.proofs.MaskLaws.{length-bits_of}
use Rattle.timers.specs.Timers.{runs_of, no_t1}
use Rattle.timers.specs.Memory.{t1_count, joined, t1_bits}
use Rattle.timers.specs.Hellos.{hello_bits, no_hellos}
use Rattle.timers.specs.Events.{start_t1}

pub length-joined : (bs : List Bool) (e : ℕ → Entry) → length (joined bs e) ≡ length bs
unfolding joined
length-joined [] e = refl
length-joined (b ∷ bs) e = ap suc (length-joined bs (λ i. e (suc i)))

pub length-bits : (m : ℕ) → length (t1_bits m) ≡ t1_count
length-bits m = length-bits_of t1_count m

-- ---- what is asked

-- those that run are those whose digit is set
pub runs_of-joined : (bs : List Bool) (e : ℕ → Entry) → runs_of (joined bs e) ≡ bs
unfolding joined
runs_of-joined [] e = refl
runs_of-joined (b ∷ bs) e = ap (λ (l : List Bool). b ∷ l) (runs_of-joined bs (λ i. e (suc i)))

pub get_or-joined : (bs : List Bool) (e : ℕ → Entry) (i : ℕ) → i < length bs
    → get_or (joined bs e) i no_t1 ≡ record { runs = get_or bs i false; entry = e i }
unfolding joined
get_or-joined [] e i h = absurd (omega arith)
get_or-joined (b ∷ bs) e zero h = refl
get_or-joined (b ∷ bs) e (suc i) h = get_or-joined bs (λ j. e (suc j)) i (omega arith)

-- ---- what changes

joined_same : (bs : List Bool) (e f : ℕ → Entry) → ((j : ℕ) → e j ≡ f j) → joined bs e ≡ joined bs f
unfolding joined
joined_same [] e f h = refl
joined_same (b ∷ bs) e f h = rw (h zero, joined_same bs (λ i. e (suc i)) (λ i. f (suc i)) (λ j. h (suc j)))

-- one digit and one entry changed is one T1 changed
joined-set : (bs : List Bool) (e f : ℕ → Entry) (i : ℕ) (b : Bool) → i < length bs → ((j : ℕ) → j ≢ i → f j ≡ e j)
    → joined (set bs i b) f ≡ set (joined bs e) i (record { runs = b; entry = f i })
unfolding joined
joined-set [] e f i b h k = absurd (omega arith)
joined-set (a ∷ bs) e f zero b h k =
    rw (joined_same bs (λ i. f (suc i)) (λ i. e (suc i)) (λ j. k (suc j) (λ (q : suc j ≡ zero). omega arith)))
joined-set (a ∷ bs) e f (suc i) b h k =
    rw (k zero (λ (q : zero ≡ suc i). omega arith), joined-set bs (λ j. e (suc j)) (λ j. f (suc j)) i b (omega arith) (λ j q. k (suc j) (λ (w : suc j ≡ suc i). q (omega arith))))

pub joined-stored : (m m' : ℕ) (e f : ℕ → Entry) (i : ℕ) (t : T1) → i < t1_count → t1_bits m' ≡ set (t1_bits m) i t.runs → f i ≡ t.entry
    → ((j : ℕ) → j ≢ i → f j ≡ e j) → joined (t1_bits m') f ≡ set (joined (t1_bits m) e) i t
joined-stored m m' e f i t h p q r =
    rw p (joined-set (t1_bits m) e f i t.runs (rw length-bits h) r ∙ ap (λ (x : Entry). set (joined (t1_bits m) e) i (record { runs = t.runs; entry = x })) q)

none-run : (bs : List Bool) (e : ℕ → Entry) → map stop_t1 (joined bs e) ≡ joined (map (λ b. false) bs) e
unfolding joined stop_t1
none-run [] e = refl
none-run (b ∷ bs) e = rw (none-run bs (λ i. e (suc i)))

-- "all T1 stop" is the mask 0
pub joined-stop : (m : ℕ) (e : ℕ → Entry) → joined (t1_bits 0) e ≡ map stop_t1 (joined (t1_bits m) e)
unfolding bits_of
joined-stop m e = sym (none-run (t1_bits m) e)

no_digit : (n j : ℕ) → get_or (bits_of n 0) j false ≡ false
unfolding bits_of
no_digit zero j = refl
no_digit (suc n) zero = refl
no_digit (suc n) (suc j) = no_digit n j

-- no hello is ordered: the mask 0
pub hello-none : (j : ℕ) → get_or (hello_bits 0) j false ≡ false
hello-none j = no_digit t1_count j

pub bits_none : hello_bits 0 ≡ no_hellos.t1s
unfolding bits_of
bits_none = refl

module _ (begun : Bool) (deadline : ℕ) where
  joined-start : (bs : List Bool) (e : ℕ → Entry) → ((j : ℕ) → j < length bs → e j ≡ start_entry begun deadline)
      → joined bs e ≡ map (start_t1 begun deadline) bs
  unfolding joined start_t1
  joined-start [] e h = refl
  joined-start (b ∷ bs) e h = rw (h zero (omega arith), joined-start bs (λ i. e (suc i)) (λ j k. h (suc j) (omega arith)))

  pub joined-started : (m : ℕ) (e : ℕ → Entry) → ((j : ℕ) → j < t1_count → e j ≡ start_entry begun deadline)
      → joined (t1_bits m) e ≡ map (start_t1 begun deadline) (t1_bits m)
  joined-started m e h = joined-start (t1_bits m) e (λ j k. h j (rw length-bits at k))

-- ---- a map done one place at a time: what is done, joined with the map of what is left. hs holds what is done (the list
-- itself, or the hello mask's digits).
module _ {A B : Type 0} (g : A → B) (hs : List B) (l : List A) (i : ℕ) (d x : A) where
  pub map-step : i < length hs → i < length l
      → take (i + 1) (set hs i (g (get_or l i d))) ++ map g (drop (i + 1) (set l i x)) ≡ take i hs ++ map g (drop i l)
  map-step h k =
      rw (add-one i, take-suc-set hs i (g (get_or l i d)) h, drop-set-lt (suc i) l i x (omega arith), drop-cons l i d k)
      (append_snoc (take i hs) (g (get_or l i d)) (map g (drop (suc i) l)))

  pub map-end : length hs ≤ i → length l ≤ i → hs ≡ take i hs ++ map g (drop i l)
  map-end h k = rw (take_all i hs h, drop_of_length-le l k) (sym (append-nil hs))
