-- Every call keeps two runs near: begins, chunks and ends, and then all of them. Callers: Isolation.
use Prim.Native.Nat.{ℕ}
use mathlib.Core.Path.{◌≡◌, refl, sym, ap, subst}
use mathlib.Core.Logic.{◌≢◌}
use mathlib.Core.Bool.{Bool, true, false, false≢true}
use mathlib.Core.List.{List}
use lib.Dec.{eqb}
use borrow.Author.Tests.{eqb-true, eqb-false}
use Rattle.basics.proofs.BoolLaws.{by-test, and_left, and-false}
use Rattle.chunks.specs.Chunks.{Unfinished, NoFrame, Frame, begun, Joined, Refused as RefusedChunk, As, join}
use Rattle.control.specs.Common.{Common, circuit_of}
use Rattle.model.specs.Answers.{Answer}
use Rattle.model.specs.Gateway.{Gateway, unfinished_on, with_frames, with_unfinished}
use Rattle.model.specs.Step.{Receive, Piece, Begin, Chunk, End, Call, At, Over, Hand, at, judge, chunked, ended, hand, hand_on, step}
use Rattle.model.specs.Claim.{Neighbour, is_sent, is_its, is_there, still}
use Rattle.model.proofs.Lists.{renew-both, length-renew, renew-numbered}
use Rattle.model.proofs.Near.{Near, Kept, kept-of-near, judge-steady, same-near, away-on, own_on, alone-on, its-on, carry-kept}
use Rattle.std.specs.Prelude.{Option, Some, None}
use Rattle.settings.specs.declared.circuit.Circuit.{Circuit}

module _ (b : Neighbour) (s₁ s₂ : Bool) (g₁ g₂ : Gateway) (n : Near b s₁ s₂ g₁ g₂) where
  -- ---- an unfinished frame is renewed in both

  frame-near : (z₁ z₂ : Bool) → (z₁ ≡ true → s₁ ≡ true) → (z₂ ≡ true → s₂ ≡ true) → (i : ℕ) (u₁ u₂ : Unfinished) → (i ≢ b.circuit → u₁ ≡ u₂)
      → Near b z₁ z₂ (with_unfinished g₁ i u₁) (with_unfinished g₂ i u₂)
  frame-near z₁ z₂ w₁ w₂ i u₁ u₂ away =
      let k = same-near b s₁ s₂ g₁ g₂ n z₁ z₂ w₁ w₂ in
      record {
        common = k.common;
        mode = k.mode;
        lan₁ = k.lan₁;
        lan₂ = k.lan₂;
        size = k.size;
        elsewhere = k.elsewhere;
        frames = cc (length-renew g₁.unfinished i u₁, length-renew g₂.unfinished i u₂, n.frames);
        unfinished = λ j h.
            renew-both (λ x y. x ≡ y) NoFrame u₁ u₂ refl g₁.unfinished g₂.unfinished i j n.frames (λ q. n.unfinished j h) (λ q. away (rw q h));
        own = k.own;
      }

  -- .. and in the first run alone, on its circuit
  own-frame : (z : Bool) → (z ≡ true → s₁ ≡ true) → (u : Unfinished) → Near b z s₂ (with_unfinished g₁ b.circuit u) g₂
  own-frame z w u =
      subst (λ (l : List Unfinished). Near b z s₂ (with_unfinished g₁ b.circuit u) (with_frames g₂ l))
      (renew-numbered g₂.unfinished b.circuit NoFrame)
      (frame-near z s₂ w (λ h. h) b.circuit u (unfinished_on g₂ b.circuit) (λ h. absurd (h refl)))

  -- ---- begins, chunks and ends on another circuit

  module _ (i : ℕ) (p : Piece) (h : i ≢ b.circuit) where
    same_kept : (u : Unfinished) (a : Answer) (r : List ℕ)
        → Kept b s₁ s₂ (Hand i p) (record { answer = a; reply = r; next = with_unfinished g₁ i u }) (record { answer = a; reply = r; next = with_unfinished g₂ i u })
    same_kept u a r =
        kept-of-near b s₁ s₂ _ _ _ (frame-near _ _ (and_left _ _) (and_left _ _) i u u (λ e. refl)) (λ e. (refl, refl)) (λ h₁ h₂. (refl, refl))

    refused-kept : (a : Answer) (r : List ℕ)
        → Kept b s₁ s₂ (Hand i p) (record { answer = a; reply = r; next = g₁ }) (record { answer = a; reply = r; next = g₂ })
    refused-kept a r =
        kept-of-near b s₁ s₂ _ _ _ (same-near b s₁ s₂ g₁ g₂ n _ _ (and_left _ _) (and_left _ _)) (λ e. (refl, refl)) (λ h₁ h₂. (refl, refl))

    chunk_kept : (j : Joined) → Kept b s₁ s₂ (Hand i p) (chunked g₁ i j) (chunked g₂ i j)
    unfolding chunked
    chunk_kept (RefusedChunk x) = refused-kept _ _
    chunk_kept (As u) = same_kept u _ _

    end_kept : (buf : List ℕ) (u : Unfinished) → Kept b s₁ s₂ (Hand i p) (ended g₁ i buf u) (ended g₂ i buf u)
    unfolding ended at
    end_kept buf NoFrame = refused-kept _ _
    end_kept buf (Frame mac octets) =
        rw (ap (λ (c : Common). circuit_of c i) (sym n.common))
        (away-on b s₁ s₂ _ _ (frame-near s₁ s₂ (λ e. e) (λ e. e) i NoFrame NoFrame (λ e. refl)) (Hand i p) i (Receive mac octets buf) h (circuit_of g₁.common i))

  hand-kept : (i : ℕ) (p : Piece) → i ≢ b.circuit → (q : Option Circuit) → Kept b s₁ s₂ (Hand i p) (hand_on g₁ i p q) (hand_on g₂ i p q)
  unfolding hand_on hand
  hand-kept i p h None = refused-kept i p h _ _
  hand-kept i (Begin mac) h (Some s) = same_kept i (Begin mac) h (begun mac) _ _
  hand-kept i (Chunk octets) h (Some s) =
      rw (ap (λ (u : Unfinished). join u octets) (sym (n.unfinished i h))) (chunk_kept i (Chunk octets) h (join (unfinished_on g₁ i) octets))
  hand-kept i (End buf) h (Some s) =
      subst (λ (u : Unfinished). Kept b s₁ s₂ (Hand i (End buf)) (ended g₁ i buf (unfinished_on g₁ i)) (ended g₂ i buf u)) (n.unfinished i h)
      (end_kept i (End buf) h buf (unfinished_on g₁ i))

  -- ---- .. and on its circuit, in the first run alone: the promise for its LAN stands no more

  never : {A : Type 0} → false ≡ true → A
  never e = absurd (false≢true e)

  chunk-near : (j : Joined) → Near b false s₂ (chunked g₁ b.circuit j).next g₂
  unfolding chunked
  chunk-near (RefusedChunk x) = same-near b s₁ s₂ g₁ g₂ n false s₂ never (λ h. h)
  chunk-near (As u) = own-frame false never u

  no-promise : (i : ℕ) (p : Piece) (a : Answer) → eqb i b.circuit ≡ true → still b s₁ (Hand i p) a ≡ false
  unfolding is_there
  no-promise i p a e = rw e (and-false s₁)

  hand-near : (p : Piece) (q : Option Circuit) → Near b false s₂ (hand_on g₁ b.circuit p q).next g₂
  unfolding hand_on hand ended at
  hand-near p None = same-near b s₁ s₂ g₁ g₂ n false s₂ never (λ h. h)
  hand-near (Begin mac) (Some s) = own-frame false never (begun mac)
  hand-near (Chunk octets) (Some s) = chunk-near (join (unfinished_on g₁ b.circuit) octets)
  hand-near (End buf) (Some s) = by (unfinished_on g₁ b.circuit)
    where
      by : (u : Unfinished) → Near b false s₂ (ended g₁ b.circuit buf u).next g₂
      by NoFrame = same-near b s₁ s₂ g₁ g₂ n false s₂ never (λ h. h)
      by (Frame mac octets) =
          alone-on b false s₂ _ g₂ (own-frame false never NoFrame) false never (Receive mac octets buf) (circuit_of g₁.common b.circuit) (λ s r e. never e)

  -- ---- every call

  pub step_kept : (c : Call) → is_its b c ≡ false → Kept b s₁ s₂ c (step g₁ c) (step g₂ c)
  unfolding step at is_its
  step_kept (Over w) e =
      rw (ap (λ (c : Common). judge c w) (sym n.common)) (carry-kept b s₁ s₂ g₁ g₂ n w (judge g₁.common w) (judge-steady g₁.common w n.mode))
  step_kept (At i l) e =
      rw (ap (λ (c : Common). circuit_of c i) (sym n.common))
      (by-test (eqb i b.circuit) (λ h. rw (eqb-true i b.circuit h) (own_on b s₁ s₂ g₁ g₂ n l (cc) (circuit_of g₁.common b.circuit) n.lan₁))
      (λ h. away-on b s₁ s₂ g₁ g₂ n (At i l) i l (eqb-false i b.circuit h) (circuit_of g₁.common i)))
  step_kept (Hand i p) e =
      rw (ap (λ (c : Common). circuit_of c i) (sym n.common)) (hand-kept i p (eqb-false i b.circuit e) (circuit_of g₁.common i))

  pub its-near : (c : Call) → is_its b c ≡ true → Near b (still b s₁ c (step g₁ c).answer) s₂ (step g₁ c).next g₂
  unfolding step at is_its is_there hand_on
  its-near (At i l) e =
      let its : is_sent b l ≡ true = by-test (eqb i b.circuit) (λ h. cc) (λ h. cc) in
      rw (eqb-true i b.circuit (and_left _ (is_sent b l) e)) (its-on b s₁ s₂ g₁ g₂ n l its (circuit_of g₁.common b.circuit) n.lan₁)
  its-near (Over w) e = absurd (false≢true e)
  its-near (Hand i p) e =
      rw (no-promise i p (step g₁ (Hand i p)).answer e, eqb-true i b.circuit e) (hand-near p (circuit_of g₁.common b.circuit))
