-- What begin, chunk and end do, from what the functions on one circuit's words and octets ensure.
use Prim.Native.Nat.{ℕ, ◌+◌, ◌-◌, ◌^◌, ◌<◌, ◌≤◌}
use native.Mathlib.Omega.{arith}
use mathlib.Core.Path.{◌≡◌, refl, ap, sym, ◌∙◌}
use mathlib.Core.Logic.{inl, inr, ◌⊎◌, ◌≢◌}
use mathlib.Core.Bool.{true≢false}
use mathlib.Core.List.{List, [], append-nil}
use lib.ListN.{length, take, drop}
use lib.Seq.{take-take}
use lib.Dec.{ltb}
use borrow.Author.Tests.{ltb-true, ltb-false, eqb-false}
use borrow.Rule.Slice.PartMut.{put_mid, put_same}
use Rattle.basics.specs.Mask.{circuits}
use Rattle.basics.specs.Lists.{part}
use Rattle.basics.specs.Octets.{big, octets_of}
use Rattle.basics.specs.declared.refusal.Refusal.{Refusal}
use Rattle.basics.specs.declared.refusal.Refusal.TheVariants.{NoCircuit, NotBegun}
use Rattle.basics.proofs.BoolLaws.{by-test}
use Rattle.basics.proofs.ListLaws.{get_or-tabulate}
use Rattle.basics.proofs.OctetsLaws.{big-octets_of}
use Rattle.basics.proofs.PartLaws.{part_same}
use Rattle.chunks.specs.Chunks.{Unfinished, NoFrame, begun, most_octets, Joined, Refused as RefusedChunk, As, join, after}
use Rattle.chunks.specs.Words.{slot_words, pending_of, meant, answered, Adds}
use Rattle.settings.specs.declared.circuit.Circuit.{Circuit}
use Rattle.control.specs.Common.{circuit_of, Chooses}
use Rattle.control.specs.Words.{common_of, control_words}
use Rattle.model.specs.Answers.{Answer, Refused, Told, Done, handed_of}
use Rattle.model.specs.Gateway.{Gateway, with_frames, with_unfinished, unfinished_on}
use Rattle.model.specs.Step.{Outcome, At, Receive, Piece, Begin, Chunk, End, Hand, refused, handed, chunked, ended, hand, hand_on, lent_to, step}
use Rattle.model.proofs.NumberLaws.{received-by}
use Rattle.own_words.specs.Words.{gateway_of}
use Rattle.gateway.specs.Whole.{gateway_words, frame_octets, slot_place, octets_place, unfinished_at, whole_of, DoesWith}
use Rattle.gateway.specs.Pieces.{TakesFrame, Takes}
use Rattle.own_words.proofs.WordLaws.{part-other, renew-at, numbered-at, choice}
use Rattle.gateway.proofs.PieceLaws.{slot-own, slot-put}
use Rattle.std.specs.Prelude.{Option, Some, None, Result, Ok, Err}

-- ---- the circuit of the number

pub chosen : (ws fs : List ℕ) (n : ℕ) (r r' : Option Circuit) → Chooses (common_of (part 0 control_words ws)) n r → r ≡ r' → circuit_of (whole_of ws fs).common n ≡ r'
unfolding whole_of
chosen ws fs n r r' c e = choice ws n r r' c e

-- a refusal that leaves all as it was
refuses : (ws fs b : List ℕ) (n : ℕ) (p : Piece) (x : Refusal) → step (whole_of ws fs) (Hand n p) ≡ refused (whole_of ws fs) b x
    → DoesWith (Hand n p) (Refused x) ws fs ws fs b
refuses ws fs b n p x e =
    record {
      answer = sym (ap (λ (o : Outcome). o.answer) e);
      reply = sym (ap (λ (o : Outcome). o.reply) e);
      next = sym (ap (λ (o : Outcome). o.next) e);
      elsewhere = λ i l w. refl;
      octets = λ y q. refl;
      own = λ y q. refl;
      kept = λ y q h. refl;
    }

unknown : (ws fs : List ℕ) (n : ℕ) (p : Piece) → circuit_of (whole_of ws fs).common n ≡ None → step (whole_of ws fs) (Hand n p) ≡ refused (whole_of ws fs) (lent_to p) NoCircuit
unfolding step hand_on
unknown ws fs n p e = rw e refl

pub no-circuit : (ws fs : List ℕ) (n : ℕ) (p : Piece) → circuit_of (whole_of ws fs).common n ≡ None → DoesWith (Hand n p) (Refused NoCircuit) ws fs ws fs (lent_to p)
no-circuit ws fs n p e = refuses ws fs (lent_to p) n p NoCircuit (unknown ws fs n p e)

-- ---- its frame

module _ (ws fs : List ℕ) (n : ℕ) (lo : 0 < n) (hi : n ≤ circuits) where
  abbrev a : ℕ
  a = slot_place (n - 1)

  abbrev f : ℕ
  f = octets_place (n - 1)

  frame_on : unfinished_on (whole_of ws fs) n ≡ unfinished_at ws fs (n - 1)
  unfolding whole_of
  frame_on = numbered-at (whole_of ws fs).unfinished n NoFrame lo ∙ get_or-tabulate (unfinished_at ws fs) circuits (n - 1) NoFrame (omega arith)

  -- its words put back, and its octets
  module _ (len : length ws ≡ gateway_words) (t : List ℕ) (long : length t ≡ a + slot_words - a) where
    frame-put : (fs' : List ℕ) → ((j : ℕ) → j < circuits → j ≢ n - 1 → part (octets_place j) most_octets fs' ≡ part (octets_place j) most_octets fs)
        → whole_of (put_mid a (a + slot_words - a) ws t) fs' ≡ with_unfinished (whole_of ws fs) n (meant (part f most_octets fs') (pending_of t))
    unfolding whole_of
    frame-put fs' others =
        slot-put ws t len (n - 1) (omega arith) long fs fs' others
        ∙ ap (with_frames (gateway_of ws)) (sym (renew-at (whole_of ws fs).unfinished n (meant (part f most_octets fs') (pending_of t)) lo))

  module _ (s : Circuit) (known : circuit_of (whole_of ws fs).common n ≡ Some s) where
    begin-is : (mac : ℕ) → step (whole_of ws fs) (Hand n (Begin mac)) ≡ handed (with_unfinished (whole_of ws fs) n (begun mac))
    unfolding step hand_on hand
    begin-is mac = rw known refl

    chunk-is : (octets : List ℕ) → step (whole_of ws fs) (Hand n (Chunk octets)) ≡ chunked (whole_of ws fs) n (join (unfinished_at ws fs (n - 1)) octets)
    unfolding step hand_on hand
    chunk-is octets = rw (known, frame_on) refl

    end_is : (b : List ℕ) → step (whole_of ws fs) (Hand n (End b)) ≡ ended (whole_of ws fs) n b (unfinished_at ws fs (n - 1))
    unfolding step hand_on hand
    end_is b = rw (known, frame_on) refl

    -- ---- begin

    pub begins : length ws ≡ gateway_words → (mac : ℕ) (t : List ℕ) → length t ≡ a + slot_words - a → pending_of t ≡ Some (mac, 0)
        → DoesWith (Hand n (Begin mac)) (Told Done) ws fs (put_mid a (a + slot_words - a) ws t) fs []
    begins len mac t long p =
        let e = begin-is mac in
        record {
          answer = sym (ap (λ (o : Outcome). o.answer) e);
          reply = sym (ap (λ (o : Outcome). o.reply) e);
          next =
              frame-put len t long fs (λ j lj ne. refl) ∙ ap (λ q. with_unfinished (whole_of ws fs) n (meant (part f most_octets fs) q)) p
              ∙ sym (ap (λ (o : Outcome). o.next) e);
          elsewhere = λ i l w. refl;
          octets = λ y q. refl;
          own = λ y q. absurd (let z : ◌≡◌ {A = ℕ} 0 1 = cc in omega arith);
          kept = λ y q h. absurd (let z : ◌≡◌ {A = ℕ} 0 1 = cc in omega arith);
        }

    -- ---- chunk

    module _ (octets us' os' : List ℕ) where
      abbrev ws' : List ℕ
      ws' = put_mid a (a + slot_words - a) ws us'

      abbrev fs' : List ℕ
      fs' = put_mid f (f + most_octets - f) fs os'

      -- refused: every word and octet is as it was
      chunk-refused : (x : Refusal) → join (unfinished_at ws fs (n - 1)) octets ≡ RefusedChunk x
          → us' ≡ part a (a + slot_words - a) ws → os' ≡ part f (f + most_octets - f) fs
          → DoesWith (Hand n (Chunk octets)) (Refused x) ws fs ws' fs' []
      unfolding chunked
      chunk-refused x e u o =
          let w : ws' ≡ ws = ap (put_mid a (a + slot_words - a) ws) u ∙ put_same a (a + slot_words - a) ws in
          let v : fs' ≡ fs = ap (put_mid f (f + most_octets - f) fs) o ∙ put_same f (f + most_octets - f) fs in
          rw (w, v) (refuses ws fs [] n (Chunk octets) x (chunk-is octets ∙ ap (chunked (whole_of ws fs) n) e))

      chunk-joined : (v : Unfinished) → join (unfinished_at ws fs (n - 1)) octets ≡ As v
          → whole_of ws' fs' ≡ with_unfinished (whole_of ws fs) n v
          → ((j : ℕ) → j < circuits → j ≢ n - 1 → part (octets_place j) most_octets fs' ≡ part (octets_place j) most_octets fs)
          → DoesWith (Hand n (Chunk octets)) (Told Done) ws fs ws' fs' []
      unfolding chunked
      chunk-joined v e w others =
          let s = chunk-is octets ∙ ap (chunked (whole_of ws fs) n) e in
          record {
            answer = sym (ap (λ (o : Outcome). o.answer) s);
            reply = sym (ap (λ (o : Outcome). o.reply) s);
            next = w ∙ sym (ap (λ (o : Outcome). o.next) s);
            elsewhere = λ j l h. others j l (λ z. let ne = eqb-false n (j + 1) h in ne (omega arith));
            octets = λ y q. absurd (let z : ◌≡◌ {A = ℕ} 0 1 = cc in omega arith);
            own = λ y q. absurd (let z : ◌≡◌ {A = ℕ} 0 1 = cc in omega arith);
            kept = λ y q h. absurd (let z : ◌≡◌ {A = ℕ} 0 1 = cc in omega arith);
          }

      -- as the code lends them
      module _ (len : length ws ≡ gateway_words) (lf : length fs ≡ frame_octets) (lu : length us' ≡ a + slot_words - a) (lo' : length os' ≡ f + most_octets - f) where
        octets-side : (j : ℕ) → j ≢ n - 1 → (octets_place j + most_octets ≤ f) ⊎ (f + most_octets ≤ octets_place j)
        octets-side j ne =
            by-test (ltb j (n - 1)) (λ q. inl (omega (arith, ltb-true j (n - 1) q)))
            (λ q. inr (let g : n - 1 ≤ j = ltb-false j (n - 1) q in let m : j ≢ n - 1 = ne in omega arith))

        octets-other : (j : ℕ) → j < circuits → j ≢ n - 1 → part (octets_place j) most_octets fs' ≡ part (octets_place j) most_octets fs
        octets-other j lj ne = part-other f (f + most_octets) fs os' (omega arith) (omega arith) lo' (octets_place j) most_octets (omega arith) (octets-side j ne)

        octets-same : part f most_octets fs' ≡ os'
        octets-same =
            let w : f + most_octets - f ≡ most_octets = omega arith in
            ap (λ (k : ℕ). take k (drop f fs')) (sym w) ∙ part_same f (f + most_octets) fs os' (omega arith) (omega arith) lo'

        by-joined : (r : Result (Unit {0}) Refusal) (j : Joined) → join (unfinished_at ws fs (n - 1)) octets ≡ j
            → Adds octets (part a slot_words ws) (part f most_octets fs) r us' os' → DoesWith (Hand n (Chunk octets)) (handed_of r) ws fs ws' fs' []
        unfolding unfinished_at after
        by-joined r (RefusedChunk x) e m =
            let told : r ≡ Err x = m.answer ∙ ap answered e in
            let left = m.kept x told in
            let wa : a + slot_words - a ≡ slot_words = omega arith in
            let wf : f + most_octets - f ≡ most_octets = omega arith in
            rw told (chunk-refused x e (left.0 ∙ ap (λ (k : ℕ). part a k ws) (sym wa)) (left.1 ∙ ap (λ (k : ℕ). part f k fs) (sym wf)))
        by-joined r (As v) e m =
            let told : r ≡ Ok tt = m.answer ∙ ap answered e in
            rw told
            (chunk-joined v e
            (frame-put len us' lu fs' octets-other
            ∙ ap (λ (o : List ℕ). with_unfinished (whole_of ws fs) n (meant o (pending_of us'))) octets-same
            ∙ ap (with_unfinished (whole_of ws fs) n) (m.next ∙ ap (after (unfinished_at ws fs (n - 1))) e))
            octets-other)

        pub chunks : (r : Result (Unit {0}) Refusal) → Adds octets (part a (a + slot_words - a) ws) (part f (f + most_octets - f) fs) r us' os'
            → DoesWith (Hand n (Chunk octets)) (handed_of r) ws fs ws' fs' []
        chunks r m =
            let wa : a + slot_words - a ≡ slot_words = omega arith in
            let wf : f + most_octets - f ≡ most_octets = omega arith in
            by-joined r (join (unfinished_at ws fs (n - 1)) octets) refl (rw (wa, wf) at m)

-- ---- end: what it takes

pub takes-nothing : (ws : List ℕ) (n : ℕ) → ((fs : List ℕ) → circuit_of (whole_of ws fs).common n ≡ None) → Takes n ws ws (Err NoCircuit)
takes-nothing ws n e = (refl, λ fs b. unknown ws fs n (End b) (e fs))

module _ (ws : List ℕ) (n : ℕ) (lo : 0 < n) (hi : n ≤ circuits) (s : Circuit) (known : (fs : List ℕ) → circuit_of (whole_of ws fs).common n ≡ Some s) where
  abbrev p : ℕ
  p = slot_place (n - 1)

  abbrev q : ℕ
  q = octets_place (n - 1)

  -- the frame, from its words
  frame_is : (fs : List ℕ) (x : Option (ℕ × ℕ)) → pending_of (part p (p + slot_words - p) ws) ≡ x → unfinished_at ws fs (n - 1) ≡ meant (part q most_octets fs) x
  unfolding unfinished_at
  frame_is fs x e =
      let w : p + slot_words - p ≡ slot_words = omega arith in
      ap (λ (k : ℕ). meant (part q most_octets fs) (pending_of (part p k ws))) (sym w) ∙ ap (meant (part q most_octets fs)) e

  pub takes_none : pending_of (part p (p + slot_words - p) ws) ≡ None → Takes n ws ws (Err NotBegun)
  unfolding ended
  takes_none e = (refl, λ fs b. end_is ws fs n lo hi s (known fs) b ∙ ap (ended (whole_of ws fs) n b) (frame_is fs None e))

  pub takes-frame : length ws ≡ gateway_words → (mac k : ℕ) (t : List ℕ) → k ≤ most_octets → mac < 2 ^ 48 → pending_of (part p (p + slot_words - p) ws) ≡ Some (mac, k)
      → length t ≡ p + slot_words - p → pending_of t ≡ None → TakesFrame n ws (put_mid p (p + slot_words - p) ws t) mac q (q + k)
  unfolding ended step
  takes-frame len mac k t fit fits e long idle =
      record {
        mac-fits = fits;
        low = omega arith;
        high = omega arith;
        own = slot-own ws t len (n - 1) (omega arith) long;
        ends = λ fs b.
            let w : q + k - q ≡ k = omega arith in
            let cut : take k (part q most_octets fs) ≡ part q (q + k - q) fs = take-take k most_octets (drop q fs) fit ∙ ap (λ (z : ℕ). part q z fs) (sym w) in
            let left : whole_of (put_mid p (p + slot_words - p) ws t) fs ≡ with_unfinished (whole_of ws fs) n NoFrame =
            frame-put ws fs n lo hi len t long fs (λ j lj ne. refl) ∙ ap (λ x. with_unfinished (whole_of ws fs) n (meant (part q most_octets fs) x)) idle in
            end_is ws fs n lo hi s (known fs) b ∙ ap (ended (whole_of ws fs) n b) (frame_is fs (Some (mac, k)) e)
            ∙ ap (λ (o : List ℕ). step (with_unfinished (whole_of ws fs) n NoFrame) (At n (Receive mac o b))) cut
            ∙ ap (λ (g : Gateway). step g (At n (Receive mac (part q (q + k - q) fs) b))) (sym left);
        dropped = λ fs b x z.
            received-by (with_unfinished (whole_of ws fs) n NoFrame) n s (known fs) mac (take k (part q most_octets fs)) b x
            (sym (ap (λ (o : Outcome). o.answer) (end_is ws fs n lo hi s (known fs) b ∙ ap (ended (whole_of ws fs) n b) (frame_is fs (Some (mac, k)) e))) ∙ z);
      }

-- .. and what it then does

pub takes-as : {n : ℕ} {ws ws' : List ℕ} {r : Result (ℕ × ℕ × ℕ) Refusal} {mac start end : ℕ} → Takes n ws ws' r → r ≡ Ok (mac, start, end) → TakesFrame n ws ws' mac start end
takes-as m e = rw e at m

-- a MAC of six octets, there and back
pub six-back : (mac : ℕ) → mac < 2 ^ 48 → (o : List ℕ) → o ≡ octets_of 6 mac → big 6 o 0 ≡ mac
six-back mac h o e = ap (λ (l : List ℕ). big 6 l 0) (e ∙ sym (append-nil (octets_of 6 mac))) ∙ big-octets_of 6 mac (omega arith) [] []

pub ends-does : {n : ℕ} {ws ws1 ws' : List ℕ} {mac m start end : ℕ} {a : Answer} {b' : List ℕ} (fs b : List ℕ) → TakesFrame n ws ws1 mac start end → m ≡ mac
    → DoesWith (At n (Receive m (part start (end - start) fs) b)) a ws1 fs ws' fs b' → DoesWith (Hand n (End b)) a ws fs ws' fs b'
ends-does {n} {ws} {ws1} {ws'} {mac} {m} {start} {end} {a} {b'} fs b t e d =
    let x : DoesWith (At n (Receive mac (part start (end - start) fs) b)) a ws1 fs ws' fs b' = rw e at d in
    let s = t.ends fs b in
    record {
      answer = x.answer ∙ sym (ap (λ (o : Outcome). o.answer) s);
      reply = x.reply ∙ sym (ap (λ (o : Outcome). o.reply) s);
      next = x.next ∙ sym (ap (λ (o : Outcome). o.next) s);
      elsewhere = λ i l w. refl;
      octets = λ y z. refl;
      own = λ y z. x.own y z ∙ t.own;
      kept = λ y z h. absurd (true≢false (sym (t.dropped fs b y (ap (λ (o : Outcome). o.answer) s ∙ sym x.answer ∙ z)) ∙ h));
    }
