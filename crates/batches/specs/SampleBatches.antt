-- Rows of the lists of a batch (document 02, W-207), with the document's numbers on the right: 15 and 16 by their names, 64 frames, 11 octets of reply room.
use Rattle.std.specs.Prelude.{ℕ, ◌≡◌, List, [], ◌∷◌, replicate, Result, Ok, Err}
use Rattle.batches.specs.declared.lists.Misfit.TheVariants.{UnevenLists, WrongSum}
use Rattle.batches.specs.Batch.{checked_by}
use Rattle.batches.specs.declared.lists.Misfit.{Misfit}

-- n frames of 27 octets each, every list as it should be
abbrev pub frames : ℕ → List ℕ
frames n = replicate n 27

-- three frames in 81 octets, with so many circuits, octets of MACs, words of places and octets of reply room
abbrev pub three : ℕ → ℕ → ℕ → ℕ → Result ℕ Misfit
three circuits sources places room = checked_by 3 81 (frames 3) circuits sources places room

-- 15: "lists of unequal length", shorter or longer; "reply room under 11 octets for each listed frame": more is fine
abbrev pub Uneven : Type 0
Uneven =
    (three 3 18 6 33 ≡ Ok 3)
    × (three 3 18 6 34 ≡ Ok 3)
    × (three 2 18 6 33 ≡ Err UnevenLists)
    × (three 4 18 6 33 ≡ Err UnevenLists)
    × (three 3 17 6 33 ≡ Err UnevenLists)
    × (three 3 24 6 33 ≡ Err UnevenLists)
    × (three 3 18 5 33 ≡ Err UnevenLists)
    × (three 3 18 8 33 ≡ Err UnevenLists)
    × (three 3 18 6 32 ≡ Err UnevenLists)

-- "over 64": 64 frames are taken, 65 are refused whatever the limit
abbrev pub SixtyFour : Type 0
SixtyFour =
    (checked_by 64 1728 (frames 64) 64 384 128 704 ≡ Ok 64)
    × (checked_by 64 1755 (frames 65) 65 390 130 715 ≡ Err UnevenLists)
    × (checked_by 1 1755 (frames 65) 65 390 130 715 ≡ Err UnevenLists)

-- 16: one octet more or less than the lengths; 15 ahead of it; also for a frame that is not taken
abbrev pub Sums : Type 0
Sums =
    (checked_by 3 80 (frames 3) 3 18 6 33 ≡ Err WrongSum)
    × (checked_by 3 82 (frames 3) 3 18 6 33 ≡ Err WrongSum)
    × (checked_by 3 80 (frames 3) 3 18 6 32 ≡ Err UnevenLists)
    × (checked_by 1 27 (frames 3) 3 18 6 33 ≡ Err WrongSum)
    × (checked_by 0 80 (frames 3) 3 18 6 33 ≡ Err WrongSum)

-- 64 lengths of 65,535 add up to 4,194,240; two that make 65,536 do not add up to 0
abbrev pub NoWrap : Type 0
NoWrap =
    (checked_by 64 4_194_240 (replicate 64 65535) 64 384 128 704 ≡ Ok 64)
    × (checked_by 2 0 (65535 ∷ 1 ∷ []) 2 12 4 22 ≡ Err WrongSum)
    × (checked_by 2 65536 (65535 ∷ 1 ∷ []) 2 12 4 22 ≡ Ok 2)

-- "the smaller of that limit and the list's length": 0 is a limit, and so is one over 64; no frame is a list
abbrev pub Limits : Type 0
Limits =
    (checked_by 0 81 (frames 3) 3 18 6 33 ≡ Ok 0)
    × (checked_by 2 81 (frames 3) 3 18 6 33 ≡ Ok 2)
    × (checked_by 1000 81 (frames 3) 3 18 6 33 ≡ Ok 3)
    × (checked_by 5 0 [] 0 0 0 0 ≡ Ok 0)

abbrev pub SampleBatches : Type 0
SampleBatches = Uneven × SixtyFour × Sums × NoWrap × Limits
