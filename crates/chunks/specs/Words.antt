-- A circuit's unfinished frame in two lent words and 1,500 lent octets (house), and what the functions on them are to do.
use Rattle.std.specs.Prelude.{ℕ, ◌+◌, ◌-◌, ◌%◌, ◌^◌, ◌<◌, ◌≤◌, ◌≡◌, cond, List, get_or, take, eqb, ltb, Option, Some, None, Result, Ok, Err}
use Rattle.basics.specs.declared.refusal.Refusal.{Refusal}
use Rattle.chunks.specs.Chunks.{Unfinished, NoFrame, Frame, most_octets, Joined, Refused, As, join, after}

abbrev pub slot_words : ℕ
slot_words = 2

-- the first word w, one more than the length of a frame that is begun, and none is with any other; the second is the MAC. Any words mean something.
unfoldable pub pending_of : List ℕ → Option (ℕ × ℕ)
pending_of us =
    let w : ℕ = get_or us 0 0 in
    cond (eqb w 0) None (cond (ltb (most_octets + 1) w) None (Some (get_or us 1 0 % 2 ^ 48, w - 1)))

-- .. with the octets fs
abbrev pub meant : List ℕ → Option (ℕ × ℕ) → Unfinished
meant fs None = NoFrame
meant fs (Some (mac, n)) = Frame mac (take n fs)

-- ---- what the functions do

abbrev pub InRange : Option (ℕ × ℕ) → Type 0
InRange None = 0 ≤ 0
InRange (Some (mac, n)) = (n ≤ most_octets) × (mac < 2 ^ 48)

pub record Loads (us : List ℕ) (r : Option (ℕ × ℕ)) : Type 0 where
  pub is : r ≡ pending_of us
  pub range : InRange r

-- which case of the definition an answer is
abbrev pub answered : Joined → Result (Unit {0}) Refusal
answered (Refused x) = Err x
answered (As u) = Ok tt

-- a refused chunk leaves every word and every octet as it was
pub record Adds (chunk us fs : List ℕ) (r : Result (Unit {0}) Refusal) (us' fs' : List ℕ) : Type 0 where
  pub answer : r ≡ answered (join (meant fs (pending_of us)) chunk)
  pub next : meant fs' (pending_of us') ≡ after (meant fs (pending_of us)) (join (meant fs (pending_of us)) chunk)
  pub kept : (x : Refusal) → r ≡ Err x → (us' ≡ us) × (fs' ≡ fs)
