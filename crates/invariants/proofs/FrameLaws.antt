-- Unfinished frames (document 02, W-205): one for each circuit, each of at most 1,500 octets, from setup on and after every call.
use Prim.Native.Nat.{ℕ, zero, suc, ◌+◌, ◌≤◌}
use native.Mathlib.Omega.{arith}
use mathlib.Core.Path.{◌≡◌, refl, ap, ◌∙◌}
use mathlib.Core.List.{List, [], ◌∷◌, ◌++◌}
use lib.ListN.{length, get_or, replicate, length-append, length-replicate}
use lib.Dec.{ltb}
use borrow.Author.Tests.{ltb-false}
use Rattle.basics.proofs.BoolLaws.{by-test}
use Rattle.basics.specs.Mask.{circuits}
use Rattle.settings.specs.declared.setup.Settings.{Settings}
use Rattle.chunks.specs.Chunks.{Unfinished, NoFrame, Frame, most_octets, Joined, Refused as RefusedChunk, As, join}
use Rattle.control.specs.Common.{circuit_of}
use Rattle.model.specs.Gateway.{Gateway, numbered, unfinished_on, with_unfinished, new_gateway}
use Rattle.model.specs.Step.{Receive, Piece, Begin, Chunk, End, Call, At, Over, Hand, chunked, ended, hand, hand_on, step}
use Rattle.model.proofs.FrameLaws.{frames-kept}
use Rattle.model.proofs.Lists.{length-renew}
use Rattle.invariants.specs.Invariants.{Octets, Fits, FrameFits, FramesFit}
use Rattle.invariants.proofs.NumberedLaws.{renew-all}
use Rattle.std.specs.Prelude.{Option, Some, None}
use Rattle.settings.specs.declared.circuit.Circuit.{Circuit}

-- ---- setup

none-begun : (k i : ℕ) → FrameFits (get_or (replicate k NoFrame) i NoFrame)
none-begun zero i = omega arith
none-begun (suc k) zero = omega arith
none-begun (suc k) (suc i) = none-begun k i

pub new-frames : (s : Settings) → FramesFit (new_gateway s)
unfolding new_gateway numbered
new-frames s = record { one = length-replicate circuits NoFrame; fit = by }
  where
    by : (n : ℕ) → FrameFits (numbered (replicate circuits NoFrame) n NoFrame)
    by zero = omega arith
    by (suc i) = none-begun circuits i

-- ---- a chunk

join-octets : (a b : List ℕ) → Octets a → Octets b → Octets (a ++ b)
join-octets [] b ha hb i = hb i
join-octets (x ∷ a) b ha hb zero = ha 0
join-octets (x ∷ a) b ha hb (suc i) = join-octets a b (λ k. ha (suc k)) hb i

abbrev JoinFits : Joined → Type 0
JoinFits (RefusedChunk x) = 0 ≤ 0
JoinFits (As u) = FrameFits u

join-fits : (u : Unfinished) (c : List ℕ) → FrameFits u → Octets c → JoinFits (join u c)
unfolding join
join-fits NoFrame c h o = omega arith
join-fits (Frame mac octets) c h o =
    by-test (ltb most_octets (length octets + length c)) (λ e. rw e (omega arith))
    (λ e. rw e (rw (length-append octets c) (ltb-false most_octets (length octets + length c) e), join-octets octets c h.1 o))

-- ---- every call

module _ (g : Gateway) (h : FramesFit g) where
  frame-fits : (n : ℕ) (u : Unfinished) → FrameFits u → FramesFit (with_unfinished g n u)
  frame-fits n u f =
      record {
        one = length-renew g.unfinished n u ∙ h.one;
        fit = renew-all NoFrame (λ m v. FrameFits v) g.unfinished n u h.fit f;
      }

  chunk-frames : (n : ℕ) (j : Joined) → JoinFits j → FramesFit (chunked g n j).next
  unfolding chunked
  chunk-frames n (RefusedChunk x) f = h
  chunk-frames n (As u) f = frame-fits n u f

hand-length : (g : Gateway) (n : ℕ) (p : Piece) (x : Option Circuit) → length (hand_on g n p x).next.unfinished ≡ length g.unfinished
unfolding hand_on hand chunked ended step
hand-length g n p None = refl
hand-length g n (Begin mac) (Some s) = length-renew g.unfinished n (Frame mac [])
hand-length g n (Chunk octets) (Some s) = by (join (unfinished_on g n) octets)
  where
    by : (j : Joined) → length (chunked g n j).next.unfinished ≡ length g.unfinished
    by (RefusedChunk x) = refl
    by (As u) = length-renew g.unfinished n u
hand-length g n (End b) (Some s) = by (unfinished_on g n)
  where
    by : (u : Unfinished) → length (ended g n b u).next.unfinished ≡ length g.unfinished
    by NoFrame = refl
    by (Frame mac octets) =
        ap length (frames-kept (with_unfinished g n NoFrame) (At n (Receive mac octets b)) refl) ∙ length-renew g.unfinished n NoFrame

-- as many as there were
pub step-length : (g : Gateway) (c : Call) → length (step g c).next.unfinished ≡ length g.unfinished
unfolding step
step-length g (At n l) = ap length (frames-kept g (At n l) refl)
step-length g (Over w) = ap length (frames-kept g (Over w) refl)
step-length g (Hand n p) = hand-length g n p (circuit_of g.common n)

left-frames : (g d : Gateway) → d.unfinished ≡ g.unfinished → FramesFit g → FramesFit d
left-frames g d e h = record { one = rw e h.one; fit = λ n. rw e (h.fit n) }

hand-frames : (g : Gateway) (n : ℕ) (p : Piece) (x : Option Circuit) → FramesFit g → Fits (Hand n p) → FramesFit (hand_on g n p x).next
unfolding hand_on hand ended step
hand-frames g n p None h f = h
hand-frames g n (Begin mac) (Some s) h f = frame-fits g h n (Frame mac []) (omega arith, λ i. omega arith)
hand-frames g n (Chunk octets) (Some s) h f =
    chunk-frames g h n (join (unfinished_on g n) octets) (join-fits (unfinished_on g n) octets (h.fit n) (f.chunk n octets refl))
hand-frames g n (End b) (Some s) h f = by (unfinished_on g n)
  where
    by : (u : Unfinished) → FramesFit (ended g n b u).next
    by NoFrame = h
    by (Frame mac octets) =
        left-frames (with_unfinished g n NoFrame) _ (frames-kept (with_unfinished g n NoFrame) (At n (Receive mac octets b)) refl)
        (frame-fits g h n NoFrame (omega arith))

pub step-frames : (g : Gateway) (c : Call) → FramesFit g → Fits c → FramesFit (step g c).next
unfolding step
step-frames g (At n l) h f = left-frames g _ (frames-kept g (At n l) refl) h
step-frames g (Over w) h f = left-frames g _ (frames-kept g (Over w) refl) h
step-frames g (Hand n p) h f = hand-frames g n p (circuit_of g.common n) h f
