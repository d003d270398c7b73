-- Rows of frames handed over in chunks (document 02, W-205), as runs of `step` from what setup returned: C1 to C6 once more, each frame cut; refusals 1,
-- 13 and 14 and their order; what drops an unfinished frame and what leaves it; two circuits at a time. On the right of ≡ stand the documents' numbers.
use Rattle.std.specs.Prelude.{ℕ, ◌≡◌, List, [], ◌∷◌, ◌++◌, map, replicate, take, drop}
use Rattle.adjacency.specs.Record.{phase_of}
use Rattle.settings.specs.declared.mode.Mode.TheVariants.{Running}
use Rattle.model.specs.Numbers.{phase_no}
use Rattle.model.specs.Answers.{number_of}
use Rattle.model.specs.Gateway.{Gateway, setup, record_at}
use Rattle.model.specs.Step.{Receive, Release, Clear, CsnpComplete, LookUp, LinkMetric, NextHello, Tick, Begin, Chunk, End, Call, At, Over, Hand, Outcome}
use Rattle.model.specs.Trace.{Turn, trace, after}
use Rattle.model.specs.SampleFrames.{settings, Row, receiving, From}
use Rattle.model.specs.SampleRuns.{seen, rows1to6, seen1to6}
use Rattle.model.specs.SampleCalls.{good, bad, receive, OnSample, answers}
use Rattle.model.specs.SampleStarts.{settings_with, lan, lan_hello}

-- ---- a frame in chunks

-- octets cut into chunks: so many, then so many, then the rest
unfoldable pub cut : List ℕ → List ℕ → List (List ℕ)
cut [] s = s ∷ []
cut (k ∷ ks) s = take k s ∷ cut ks (drop k s)

abbrev pub chunks_on : ℕ → List (List ℕ) → List Call
chunks_on n cs = map (λ c. Hand n (Chunk c)) cs

-- a receive, handed over so; another call as it is
unfoldable pub handing : List ℕ → Call → List Call
handing ks (At n (Receive mac frame b)) = Hand n (Begin mac) ∷ chunks_on n (cut ks frame) ++ Hand n (End b) ∷ []
handing ks (At n Release) = At n Release ∷ []
handing ks (At n Clear) = At n Clear ∷ []
handing ks (At n (CsnpComplete level)) = At n (CsnpComplete level) ∷ []
handing ks (At n (LookUp k)) = At n (LookUp k) ∷ []
handing ks (At n LinkMetric) = At n LinkMetric ∷ []
handing ks (At n (NextHello level)) = At n (NextHello level) ∷ []
handing ks (Over w) = Over w ∷ []
handing ks (Hand n p) = Hand n p ∷ []

-- ---- C1 to C6, each frame cut in another way: empty chunks first, in the middle and last, the header's octets one by one, no cut at all

abbrev pub cuts : List (List ℕ)
cuts = [] ∷ (0 ∷ []) ∷ (1 ∷ 1 ∷ 1 ∷ 1 ∷ 1 ∷ 1 ∷ 1 ∷ 1 ∷ []) ∷ (20 ∷ 0 ∷ 0 ∷ 3 ∷ []) ∷ (28 ∷ []) ∷ (27 ∷ 1 ∷ []) ∷ (9 ∷ 9 ∷ 0 ∷ 9 ∷ []) ∷ []

unfoldable pub calls_cut : List (List ℕ) → List Row → List Call
calls_cut [] rs = []
calls_cut (ks ∷ kss) [] = []
calls_cut (ks ∷ kss) (r ∷ rs) = Over (Tick r.clock) ∷ handing ks (receiving r.frame) ++ calls_cut kss rs

-- what is seen of the ends
abbrev pub seen_end : {A : Type 0} → (Outcome → A) → Outcome → Call → List A → List A
seen_end see o (At n l) rest = rest
seen_end see o (Over w) rest = rest
seen_end see o (Hand n (Begin mac)) rest = rest
seen_end see o (Hand n (Chunk octets)) rest = rest
seen_end see o (Hand n (End b)) rest = see o ∷ rest

unfoldable pub seen_ends : {A : Type 0} → (Outcome → A) → List Turn → List A
seen_ends see [] = []
seen_ends see (t ∷ ts) = let rest = seen_ends see ts in seen_end see t.outcome t.call rest

abbrev pub CutRows : Type 0
CutRows = From (setup (settings Running 10 80)) (λ g. seen_ends seen (trace g (calls_cut cuts rows1to6)) ≡ seen1to6)

-- ---- the refusals, on the sample gateway, whose neighbour is UP: one P2P circuit

abbrev pub begin : Call
begin = Hand 1 (Begin 0x020000000002)

abbrev pub chunk : List ℕ → Call
chunk octets = Hand 1 (Chunk octets)

-- with a reply buffer of so many octets
abbrev pub end : ℕ → Call
end room = Hand 1 (End (replicate room 0xFF))

abbrev pub Answers : List Call → List ℕ → Type 0
Answers cs ns = OnSample (λ g. map number_of (answers (trace g cs)) ≡ ns)

-- 1 ahead of 13, 13 ahead of 2 and 14; an end that receive refuses with 2 drops the frame
abbrev pub InOrder : Type 0
InOrder =
    Answers (Hand 2 (Begin 0x020000000002) ∷ Hand 2 (Chunk (replicate 1501 0)) ∷ Hand 2 (End []) ∷ Hand 0 (End []) ∷ []) (1 ∷ 1 ∷ 1 ∷ 1 ∷ [])
    × Answers (chunk [] ∷ chunk (replicate 1501 0) ∷ end 10 ∷ end 11 ∷ []) (13 ∷ 13 ∷ 13 ∷ 13 ∷ [])
    × Answers (begin ∷ chunk good ∷ end 10 ∷ end 11 ∷ []) (0 ∷ 0 ∷ 2 ∷ 13 ∷ [])

-- 14: exactly 1,500 octets are fine, and are no hello (3); of a chunk that is refused none is kept
abbrev pub TooLongRows : Type 0
TooLongRows =
    Answers (begin ∷ chunk (replicate 1500 0) ∷ chunk (0 ∷ []) ∷ chunk [] ∷ end 11 ∷ []) (0 ∷ 0 ∷ 14 ∷ 0 ∷ 3 ∷ [])
    × Answers (begin ∷ chunk (take 9 good) ∷ chunk (replicate 1500 0) ∷ chunk (drop 9 good) ∷ end 11 ∷ []) (0 ∷ 0 ∷ 14 ∷ 0 ∷ 0 ∷ [])

-- a frame that was begun and given nothing is one of no octets (3); "Beginning again drops it, and so does an end, even one that receive refuses"
abbrev pub Drops : Type 0
Drops =
    Answers (begin ∷ end 11 ∷ chunk [] ∷ []) (0 ∷ 3 ∷ 13 ∷ [])
    × Answers (begin ∷ chunk bad ∷ begin ∷ chunk good ∷ end 11 ∷ end 11 ∷ []) (0 ∷ 0 ∷ 0 ∷ 0 ∷ 0 ∷ 13 ∷ [])
    × Answers (begin ∷ chunk bad ∷ end 11 ∷ chunk [] ∷ []) (0 ∷ 0 ∷ 6 ∷ 13 ∷ [])

-- a whole receive, refused or not, a tick, a release and a clear leave it
abbrev pub Leaves : Type 0
Leaves =
    Answers
    (begin ∷ chunk (take 9 good) ∷ receive good ∷ receive bad ∷ Over (Tick 84) ∷ At 1 Release ∷ chunk (drop 9 good) ∷ At 1 Clear ∷ end 11 ∷ [])
    (0 ∷ 0 ∷ 0 ∷ 6 ∷ 0 ∷ 0 ∷ 0 ∷ 0 ∷ 0 ∷ [])

-- ---- two LANs at a time: each has its own frame, and the MAC of its own begin

-- the chunks of two frames, in turn
unfoldable pub in_turn : List Call → List Call → List Call
in_turn [] ys = ys
in_turn (x ∷ xs) [] = x ∷ xs
in_turn (x ∷ xs) (y ∷ ys) = x ∷ y ∷ in_turn xs ys

-- a record of level 1 from 19216800100x with the source MAC 02000000000y on circuit n: 0 none, 1 INIT
abbrev pub phase_at : Gateway → ℕ → ℕ → ℕ → ℕ
phase_at g n system mac = phase_no (phase_of (record_at g n (record { level = 1; system = system; mac = mac })))

abbrev pub TwoAtATime : Type 0
TwoAtATime =
    From (setup (settings_with Running 3 2 lan))
    (λ g.
    map
    (λ (x : ℕ × ℕ × ℕ).
    phase_at (after g (in_turn (handing (5 ∷ 0 ∷ 9 ∷ []) (lan_hello 1 1 2 [])) (handing (9 ∷ 4 ∷ 4 ∷ []) (lan_hello 2 1 3 [])))) x.0 x.1 x.2)
    ((1, 0x192168001002, 0x020000000002)
    ∷ (2, 0x192168001003, 0x020000000003)
    ∷ (1, 0x192168001002, 0x020000000003)
    ∷ (2, 0x192168001002, 0x020000000002)
    ∷ (1, 0x192168001003, 0x020000000003)
    ∷ [])
    ≡ 1 ∷ 1 ∷ 0 ∷ 0 ∷ 0 ∷ [])

abbrev pub SamplePieces : Type 0
SamplePieces = CutRows × InOrder × TooLongRows × Drops × Leaves × TwoAtATime
