-- Demand 1 (document 01, "Refusals by number"; document 02, W-205): a call is refused by its own numbers, and a refusal changes no record, timer, clock or
-- octet of a lent buffer, and no unfinished frame but that of an end which receive refuses. Of every gateway and every call.
use Rattle.std.specs.Prelude.{ℕ, ◌≡◌, Bool, true, false, cond, ◌||◌, List, [], ◌∷◌, eqb}
use Rattle.basics.specs.declared.refusal.Refusal.{Refusal}
use Rattle.chunks.specs.Chunks.{NoFrame}
use Rattle.model.specs.Numbers.{refusal_no}
use Rattle.model.specs.Answers.{Refused}
use Rattle.model.specs.Gateway.{Gateway, with_unfinished}
use Rattle.model.specs.Step.{Local, Receive, Release, Clear, CsnpComplete, LookUp, LinkMetric, NextHello, Global, Tick, DatabaseComplete, Waiting, Piece, Begin, Chunk, End, Call, At, Over, Hand, lent, lent_to, step}

-- ---- the numbers

-- those of a frame on a circuit that is there
abbrev pub frame_numbers : List ℕ
frame_numbers = 2 ∷ 3 ∷ 4 ∷ 5 ∷ 6 ∷ 7 ∷ 8 ∷ 9 ∷ []

-- 1: "no circuit of that number", or a level that is not enabled there; 11: a notice in the mode Running
abbrev pub numbers_at : Local → List ℕ
numbers_at (Receive mac frame b) = 1 ∷ frame_numbers
numbers_at Release = 1 ∷ []
numbers_at Clear = 1 ∷ []
numbers_at (CsnpComplete level) = 1 ∷ 11 ∷ []
numbers_at (LookUp k) = 1 ∷ []
numbers_at LinkMetric = 1 ∷ []
numbers_at (NextHello level) = 1 ∷ []

abbrev pub numbers_over : Global → List ℕ
numbers_over (Tick clock) = 10 ∷ []
numbers_over (DatabaseComplete level) = 1 ∷ 11 ∷ []
numbers_over Waiting = []

-- "13, chunk or end with none begun, after 1; 14, more than 1,500 octets joined, after 13"; an end is a receive
abbrev pub numbers_to : Piece → List ℕ
numbers_to (Begin mac) = 1 ∷ []
numbers_to (Chunk octets) = 1 ∷ 13 ∷ 14 ∷ []
numbers_to (End b) = 1 ∷ 13 ∷ frame_numbers

abbrev pub numbers_of : Call → List ℕ
numbers_of (At n l) = numbers_at l
numbers_of (Over w) = numbers_over w
numbers_of (Hand n p) = numbers_to p

unfoldable pub is_one_of : ℕ → List ℕ → Bool
is_one_of x [] = false
is_one_of x (n ∷ ns) = eqb x n || is_one_of x ns

abbrev pub RefusesByNumber : Type 0
RefusesByNumber = (g : Gateway) (c : Call) (x : Refusal) → (step g c).answer ≡ Refused x → is_one_of (refusal_no x) (numbers_of c) ≡ true

-- ---- what a refusal leaves

-- the reply buffer that a call lends
abbrev pub lent_by : Call → List ℕ
lent_by (At n l) = lent l
lent_by (Over w) = []
lent_by (Hand n p) = lent_to p

-- an unfinished frame is dropped by "an end, even one that receive refuses": by 2 to 9, and neither by 1 nor by 13
abbrev pub drops_to : Piece → Refusal → Bool
drops_to (Begin mac) x = false
drops_to (Chunk octets) x = false
drops_to (End b) x = is_one_of (refusal_no x) frame_numbers

abbrev pub drops : Call → Refusal → Bool
drops (At n l) x = false
drops (Over w) x = false
drops (Hand n p) x = drops_to p x

-- the gateway that the refusal x of a call leaves
abbrev pub left_refused : Gateway → Call → Refusal → Gateway
left_refused g (At n l) x = g
left_refused g (Over w) x = g
left_refused g (Hand n p) x = cond (drops_to p x) (with_unfinished g n NoFrame) g

abbrev pub RefusalsKeep : Type 0
RefusalsKeep = (g : Gateway) (c : Call) (x : Refusal) → (step g c).answer ≡ Refused x → ((step g c).next ≡ left_refused g c x) × ((step g c).reply ≡ lent_by c)
