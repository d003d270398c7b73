-- A batch (document 02, W-207): what a caller lends for a whole queue of frames, refusals 15 and 16, and how many frames are taken. The frames themselves are
-- receives, in crate model.
use Rattle.std.specs.Prelude.{ℕ, ◌+◌, ◌*◌, Bool, cond, not, ◌||◌, List, [], ◌∷◌, length, eqb, ltb, Result, Ok, Err}
use Rattle.batches.specs.declared.lists.Misfit.TheVariants.{UnevenLists, WrongSum}
use Rattle.batches.specs.declared.lists.Misfit.{Misfit}

-- "up to 64 frames"
abbrev pub most_frames : ℕ
most_frames = 64

-- a MAC is six octets; a place for an answer is two words (house); "11 octets of reply room each"
abbrev pub mac_octets : ℕ
mac_octets = 6

abbrev pub place_words : ℕ
place_words = 2

abbrev pub reply_octets : ℕ
reply_octets = 11

pub record Batch : Type 0 where
  -- "The caller also gives the most frames to take."
  pub limit : ℕ
  -- "frames laid end to end in one buffer; their lengths come as a list of 16-bit numbers"
  pub buffer : List ℕ
  pub lengths : List ℕ
  -- "with circuits, MACs and places for answers beside them": of the places, how many words are lent
  pub circuits : List ℕ
  pub sources : List ℕ
  pub places : ℕ
  -- "11 octets of reply room each"
  pub room : List ℕ

-- ---- "Refusals, before any frame"

-- 15: "lists of unequal length, over 64, or reply room under 11 octets for each listed frame"
abbrev pub uneven : ℕ → ℕ → ℕ → ℕ → ℕ → Bool
uneven n circuits sources places room =
    ltb most_frames n
    || (not (eqb circuits n) || (not (eqb sources (mac_octets * n)) || (not (eqb places (place_words * n)) || ltb room (reply_octets * n))))

-- 16: "lengths that don't add up to the buffer"
unfoldable pub sum : List ℕ → ℕ
sum [] = 0
sum (x ∷ xs) = x + sum xs

-- "how many frames were taken: the smaller of that limit and the list's length"
unfoldable pub smaller : ℕ → ℕ → ℕ
smaller a b = cond (ltb a b) a b

-- by the lengths, and by how long the buffer and the other lists are
unfoldable pub checked_by : (limit octets : ℕ) (lengths : List ℕ) (circuits sources places room : ℕ) → Result ℕ Misfit
checked_by limit octets ls circuits sources places room =
    cond (uneven (length ls) circuits sources places room) (Err UnevenLists)
    (cond (eqb (sum ls) octets) (Ok (smaller limit (length ls))) (Err WrongSum))

abbrev pub checked : Batch → Result ℕ Misfit
checked q = checked_by q.limit (length q.buffer) q.lengths (length q.circuits) (length q.sources) q.places (length q.room)
