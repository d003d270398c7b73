-- Rows of one circuit's unfinished frame (document 02, W-205), with the document's numbers on the right: 13 and 14 by their names, 1,500 octets.
use Rattle.std.specs.Prelude.{ℕ, ◌≡◌, [], ◌∷◌, replicate}
use Rattle.basics.specs.declared.refusal.Refusal.TheVariants.{NotBegun, TooLong}
use Rattle.chunks.specs.Chunks.{NoFrame, Frame, begun, Refused, As, join, after_all}

abbrev pub mac : ℕ
mac = 0x020000000002

-- 13: "with none begun", an empty chunk too
abbrev pub Thirteen : Type 0
Thirteen = (join NoFrame [] ≡ Refused NotBegun) × (join NoFrame (0x83 ∷ []) ≡ Refused NotBegun)

-- "more than 1,500 octets joined": 1,500 are not
abbrev pub Fourteen : Type 0
Fourteen =
    (join (begun mac) (replicate 1500 7) ≡ As (Frame mac (replicate 1500 7)))
    × (join (begun mac) (replicate 1501 7) ≡ Refused TooLong)
    × (join (Frame mac (replicate 1500 7)) [] ≡ As (Frame mac (replicate 1500 7)))
    × (join (Frame mac (replicate 1500 7)) (7 ∷ []) ≡ Refused TooLong)

-- chunks one after another, "some of them empty"; one that is refused is left out, and a smaller one may still fit
abbrev pub OneByOne : Type 0
OneByOne =
    (after_all (begun mac) ([] ∷ (1 ∷ 2 ∷ []) ∷ [] ∷ (3 ∷ []) ∷ [] ∷ []) ≡ Frame mac (1 ∷ 2 ∷ 3 ∷ []))
    × (after_all (Frame mac (replicate 1499 7)) ((8 ∷ 9 ∷ []) ∷ (7 ∷ []) ∷ []) ≡ Frame mac (replicate 1500 7))
    × (after_all NoFrame ((1 ∷ []) ∷ []) ≡ NoFrame)

abbrev pub SampleChunks : Type 0
SampleChunks = Thirteen × Fourteen × OneByOne
