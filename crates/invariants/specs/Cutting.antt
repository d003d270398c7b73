-- A frame handed over in chunks (document 02, W-205): "The answer, state and reply equal those of receive on the joined octets, wherever the cuts are."
-- Of every gateway, whatever other calls stand between, on other circuits, on its own or on none.
use Rattle.std.specs.Prelude.{ℕ, ◌≤◌, ◌≡◌, Bool, false, List, [], ◌∷◌, length, eqb, Some}
use Rattle.settings.specs.declared.circuit.Circuit.{Circuit}
use Rattle.chunks.specs.Chunks.{Unfinished, NoFrame, most_octets, joined}
use Rattle.control.specs.Common.{circuit_of}
use Rattle.model.specs.Gateway.{Gateway, with_unfinished}
use Rattle.model.specs.Step.{Receive, Begin, Chunk, End, Call, At, Over, Hand, Outcome, step}
use Rattle.model.specs.Trace.{after}

-- a begin, a chunk or an end on circuit n
abbrev pub is_piece_on : ℕ → Call → Bool
is_piece_on n (At m l) = false
is_piece_on n (Over w) = false
is_piece_on n (Hand m p) = eqb m n

-- ---- the frame is nothing to any other call

-- the call c on the gateway with the unfinished frame u on circuit n, and without it
pub record Aside (g : Gateway) (n : ℕ) (u : Unfinished) (c : Call) : Type 0 where
  pub answer : (step (with_unfinished g n u) c).answer ≡ (step g c).answer
  pub reply : (step (with_unfinished g n u) c).reply ≡ (step g c).reply
  pub next : (step (with_unfinished g n u) c).next ≡ with_unfinished (step g c).next n u

abbrev pub FramesAside : Type 0
FramesAside = (g : Gateway) (n : ℕ) (u : Unfinished) (c : Call) → is_piece_on n c ≡ false → Aside g n u c

-- ---- any cutting

-- the calls cs between a begin and an end on circuit n: chunks there, in their order and some of them empty, and any other calls in theirs, but begins
-- and ends there
pub data Between (n : ℕ) : (cs : List Call) → (chunks : List (List ℕ)) → (others : List Call) → Type 0 where
  none : Between n [] [] []
  chunk : {cs others : List Call} {chunks : List (List ℕ)} (octets : List ℕ) → Between n cs chunks others
      → Between n (Hand n (Chunk octets) ∷ cs) (octets ∷ chunks) others
  other : {cs others : List Call} {chunks : List (List ℕ)} (c : Call) → is_piece_on n c ≡ false → Between n cs chunks others
      → Between n (c ∷ cs) chunks (c ∷ others)

-- the end's outcome e, and that of receive
pub record EndsAs (n : ℕ) (e r : Outcome) : Type 0 where
  pub answer : e.answer ≡ r.answer
  pub reply : e.reply ≡ r.reply
  -- records, timers, clock and the unfinished frames of the other circuits; its own is dropped
  pub next : e.next ≡ with_unfinished r.next n NoFrame

-- A circuit that is there, in a gateway that has a place for its frame, as every one has from setup on and any lent words.
abbrev pub AnyCutting : Type 0
AnyCutting =
    (g : Gateway) (n mac : ℕ) (s : Circuit) → circuit_of g.common n ≡ Some s → n ≤ length g.unfinished
    → (cs others : List Call) (chunks : List (List ℕ)) → Between n cs chunks others → length (joined chunks) ≤ most_octets → (b : List ℕ)
    → EndsAs n (step (after g (Hand n (Begin mac) ∷ cs)) (Hand n (End b))) (step (after g others) (At n (Receive mac (joined chunks) b)))
