-- Any cutting, proved (document 02, W-205): the unfinished frame is nothing to other calls, chunks between them are their octets joined, and the end is
-- receive on these.
use Prim.Native.Nat.{ℕ, zero, suc, ◌+◌, ◌≤◌, ◌<◌}
use native.Mathlib.Omega.{arith}
use mathlib.Core.Path.{◌≡◌, refl, sym, ap, ◌∙◌}
use mathlib.Core.Logic.{◌≢◌}
use mathlib.Core.Bool.{false}
use mathlib.Core.List.{List, [], ◌∷◌, ◌++◌, append_assoc, append-nil}
use lib.ListN.{length, length-append}
use borrow.Author.Tests.{eqb-false}
use Rattle.settings.specs.declared.circuit.Circuit.{Circuit}
use Rattle.chunks.specs.Chunks.{Unfinished, NoFrame, Frame, most_octets, Joined, Refused as RefusedChunk, As, join, joined}
use Rattle.chunks.proofs.ChunkLaws.{join-fits}
use Rattle.control.specs.Common.{circuit_of}
use Rattle.model.specs.Gateway.{Gateway, unfinished_on, with_frames, with_unfinished}
use Rattle.model.specs.Step.{Local, Receive, Piece, Begin, Chunk, End, Call, At, Over, Hand, Outcome, lift, on, at, Judged, Refused as RefusedCall, Sweep, Tell, judge, carry, handed, chunked, ended, hand, hand_on, step}
use Rattle.model.specs.Trace.{trace, left_by, after}
use Rattle.model.proofs.Near.{circuit_of-same}
use Rattle.model.proofs.Lists.{renew-same, renew-other, renew-again, renew-swap}
use Rattle.invariants.specs.Cutting.{is_piece_on, FramesAside, Between, none, chunk, other, AnyCutting}
use Rattle.invariants.proofs.CommonLaws.{step-moves}
use Rattle.invariants.proofs.FrameLaws.{step-length}
use Rattle.std.specs.Prelude.{Option, Some, None}

-- ---- the frame is nothing to any other call

-- the frame u hung onto circuit n
abbrev hung : ℕ → Unfinished → Outcome → Outcome
hung n u o = record { answer = o.answer; reply = o.reply; next = with_unfinished o.next n u }

module _ (n : ℕ) (u : Unfinished) where
  on-hung : (g : Gateway) (m : ℕ) (l : Local) (x : Option Circuit) → on (with_unfinished g n u) m l x ≡ hung n u (on g m l x)
  unfolding on lift
  on-hung g m l None = refl
  on-hung g m l (Some s) = refl

  carry-hung : (g : Gateway) (j : Judged) → carry (with_unfinished g n u) j ≡ hung n u (carry g j)
  unfolding carry
  carry-hung g (RefusedCall x) = refl
  carry-hung g (Sweep clock d hellos o) = refl
  carry-hung g (Tell d a) = refl

  module _ (g : Gateway) (m : ℕ) (apart : m ≢ n) where
    -- the frames of two circuits
    two-frames : (v : Unfinished) → with_unfinished (with_unfinished g n u) m v ≡ with_unfinished (with_unfinished g m v) n u
    two-frames v =
        ap (with_frames g)
        (renew-swap g.unfinished n m u v (λ e. apart (sym e)))

    chunk-hung : (j : Joined) → chunked (with_unfinished g n u) m j ≡ hung n u (chunked g m j)
    unfolding chunked
    chunk-hung (RefusedChunk x) = refl
    chunk-hung (As v) = ap handed (two-frames v)

    end-hung : (b : List ℕ) (v : Unfinished) → ended (with_unfinished g n u) m b v ≡ hung n u (ended g m b v)
    unfolding ended at
    end-hung b NoFrame = refl
    end-hung b (Frame mac octets) =
        ap (λ (h : Gateway). on h m (Receive mac octets b) (circuit_of g.common m)) (two-frames NoFrame)
        ∙ on-hung (with_unfinished g m NoFrame) m (Receive mac octets b) (circuit_of g.common m)

    own : unfinished_on (with_unfinished g n u) m ≡ unfinished_on g m
    own = renew-other g.unfinished n m u NoFrame apart

    hand-hung : (p : Piece) (x : Option Circuit) → hand_on (with_unfinished g n u) m p x ≡ hung n u (hand_on g m p x)
    unfolding hand_on hand
    hand-hung p None = refl
    hand-hung (Begin mac) (Some s) = ap handed (two-frames (Frame mac []))
    hand-hung (Chunk octets) (Some s) = rw own (chunk-hung (join (unfinished_on g m) octets))
    hand-hung (End b) (Some s) = rw own (end-hung b (unfinished_on g m))

  step-hung : (g : Gateway) (c : Call) → is_piece_on n c ≡ false → step (with_unfinished g n u) c ≡ hung n u (step g c)
  unfolding step at
  step-hung g (At m l) e = on-hung g m l (circuit_of g.common m)
  step-hung g (Over w) e = carry-hung g (judge g.common w)
  step-hung g (Hand m p) e = hand-hung g m (eqb-false m n e) p (circuit_of g.common m)

pub frames-aside : FramesAside
frames-aside g n u c e =
    let h = step-hung n u g c e in
    record { answer = ap (λ (o : Outcome). o.answer) h; reply = ap (λ (o : Outcome). o.reply) h; next = ap (λ (o : Outcome). o.next) h }

-- ---- chunks between other calls

-- a frame renewed twice
again : (g : Gateway) (n : ℕ) (u v : Unfinished) → with_unfinished (with_unfinished g n u) n v ≡ with_unfinished g n v
again g n u v = ap (with_frames g) (renew-again g.unfinished n u v)

module _ (n mac : ℕ) (s : Circuit) where
  -- a circuit that is there, with a place for its frame
  record Has (g : Gateway) : Type 0 where
    known : circuit_of g.common n ≡ Some s
    low : 0 < n
    high : n ≤ length g.unfinished

  has-next : (g : Gateway) (c : Call) → Has g → Has (step g c).next
  has-next g c h =
      record {
        known = circuit_of-same g.common (step g c).next.common (step-moves g c).circuits n ∙ h.known;
        low = h.low;
        high = rw (step-length g c) h.high;
      }

  frame-there : (g : Gateway) (u : Unfinished) → Has g → unfinished_on (with_unfinished g n u) n ≡ u
  frame-there g u h = renew-same g.unfinished n u NoFrame h.low h.high

  add-chunk : (g : Gateway) (octets c : List ℕ) → Has g → length octets + length c ≤ most_octets
      → (step (with_unfinished g n (Frame mac octets)) (Hand n (Chunk c))).next ≡ with_unfinished g n (Frame mac (octets ++ c))
  unfolding step hand_on hand chunked
  add-chunk g octets c h fit =
      rw (h.known, frame-there g (Frame mac octets) h, join-fits mac octets c fit) (again g n (Frame mac octets) (Frame mac (octets ++ c)))

  between : (g : Gateway) (octets : List ℕ) {cs others : List Call} {chunks : List (List ℕ)} → Has g → Between n cs chunks others
      → length octets + length (joined chunks) ≤ most_octets
      → after (with_unfinished g n (Frame mac octets)) cs ≡ with_unfinished (after g others) n (Frame mac (octets ++ joined chunks))
  unfolding trace left_by joined
  between g octets h none fit = rw append-nil refl
  between g octets {others = os} {chunks = c ∷ chunks} h (chunk {cs} d r) fit =
      let l : length (c ++ joined chunks) ≡ length c + length (joined chunks) = length-append c (joined chunks) in
      let m : length (octets ++ c) ≡ length octets + length c = length-append octets c in
      ap (λ (x : Gateway). after x cs) (add-chunk g octets c h (omega arith))
      ∙ between g (octets ++ c) h r (omega arith)
      ∙ ap (λ (x : List ℕ). with_unfinished (after g os) n (Frame mac x)) (append_assoc octets c (joined chunks))
  between g octets h (other {cs} c e r) fit =
      ap (λ (x : Gateway). after x cs) (frames-aside g n (Frame mac octets) c e).next ∙ between (step g c).next octets (has-next g c h) r fit

  has-after : (g : Gateway) (cs : List Call) → Has g → Has (after g cs)
  unfolding trace left_by
  has-after g [] h = h
  has-after g (c ∷ cs) h = has-after (step g c).next cs (has-next g c h)

  -- the end
  end_is : (g : Gateway) (octets b : List ℕ) → Has g
      → step (with_unfinished g n (Frame mac octets)) (Hand n (End b)) ≡ hung n NoFrame (step g (At n (Receive mac octets b)))
  unfolding step hand_on hand ended at
  end_is g octets b h =
      rw (h.known, frame-there g (Frame mac octets) h, again g n (Frame mac octets) NoFrame, h.known) (on-hung n NoFrame g n (Receive mac octets b) (Some s))

  begin-is : (g : Gateway) → Has g → (step g (Hand n (Begin mac))).next ≡ with_unfinished g n (Frame mac [])
  unfolding step hand_on hand
  begin-is g h = rw h.known refl

low_of : (g : Gateway) (n : ℕ) (s : Circuit) → circuit_of g.common n ≡ Some s → 0 < n
unfolding circuit_of
low_of g zero s e = absurd (let z : ◌≡◌ {A = ℕ} 0 1 = cc in omega arith)
low_of g (suc i) s e = omega arith

pub any-cutting : AnyCutting
unfolding trace left_by
any-cutting g n mac s e le cs others chunks r fit b =
    let h : Has n mac s g = record { known = e; low = low_of g n s e; high = le } in
    let run : after g (Hand n (Begin mac) ∷ cs) ≡ with_unfinished (after g others) n (Frame mac (joined chunks)) =
    ap (λ (x : Gateway). after x cs) (begin-is n mac s g h) ∙ between n mac s g [] h r (omega arith) in
    let is = ap (λ (x : Gateway). step x (Hand n (End b))) run ∙ end_is n mac s (after g others) (joined chunks) b (has-after n mac s g others h) in
    record { answer = ap (λ (o : Outcome). o.answer) is; reply = ap (λ (o : Outcome). o.reply) is; next = ap (λ (o : Outcome). o.next) is }
