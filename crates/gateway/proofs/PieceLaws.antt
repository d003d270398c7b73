-- A circuit's unfinished frame in the lent memories: its two words and its octets put back change it alone. Then what setup does to the memory whole.
use Prim.Native.Nat.{ℕ, ◌+◌, ◌-◌, ◌<◌, ◌≤◌}
use native.Mathlib.Omega.{arith}
use mathlib.Core.Path.{◌≡◌, refl, ap, sym, ◌∙◌}
use mathlib.Core.Logic.{inl, inr, ◌⊎◌, ◌≢◌}
use mathlib.Core.List.{List, []}
use lib.ListN.{length, set, take, drop}
use lib.Dec.{ltb, eqb}
use borrow.Author.Tests.{ltb-true, ltb-false, eqb-true, eqb-false}
use borrow.Rule.Slice.PartMut.{put_mid, put_same}
use Rattle.basics.specs.Mask.{circuits}
use Rattle.basics.specs.Lists.{part, tabulate}
use Rattle.basics.proofs.BoolLaws.{by-test}
use Rattle.basics.proofs.ListLaws.{tabulate-set, tabulate-same}
use Rattle.basics.proofs.PartLaws.{length_back, part_same}
use Rattle.chunks.specs.Chunks.{NoFrame, most_octets}
use Rattle.chunks.specs.Words.{slot_words, pending_of, meant}
use Rattle.basics.specs.declared.refusal.Refusal.{Refusal}
use Rattle.settings.specs.declared.setup.Settings.{Settings}
use Rattle.timers.specs.declared.hellos.HelloOrders.{HelloOrders}
use Rattle.model.specs.Numbers.{refusal_no}
use Rattle.settings.specs.declared.circuit.Circuit.{Circuit}
use Rattle.timers.specs.Hellos.{Hellos}
use Rattle.timers.specs.Events.{start_hellos}
use Rattle.control.specs.Common.{start_of, setup_common}
use Rattle.control.specs.Setup.{settings_on}
use Rattle.control.specs.Words.{control_words, circuit_at, circuits_from}
use Rattle.control.specs.declared.setup.Basis.{Basis}
use Rattle.model.specs.Gateway.{Gateway, with_frames, with_common, new_room, no_frames, Setup, Refused as RefusedSetup, Started, setup}
use Rattle.own_words.specs.Words.{own_words, gateway_of}
use Rattle.own_words.specs.Setup.{Refused, report_of, report_in, started_in, PutsCircuit, Begins, SetsUp}
use Rattle.gateway.specs.Whole.{gateway_words, slot_place, octets_place, unfinished_at, whole_of, Starts, SetsUpWhole}
use Rattle.own_words.proofs.WordLaws.{part-other}
use Rattle.gateway.proofs.WholeLaws.{own-part, own-control, own_back, gateway-back}
use Rattle.std.specs.Prelude.{None, Result, Ok, Err}

-- ---- the words of circuit i (from 0), as the code lends them

module _ (ws t : List ℕ) (len : length ws ≡ gateway_words) (i : ℕ) (lt : i < circuits) (long : length t ≡ slot_place i + slot_words - slot_place i) where
  abbrev a : ℕ
  a = slot_place i

  abbrev back : List ℕ
  back = put_mid a (a + slot_words - a) ws t

  pub length-slot : length back ≡ gateway_words
  length-slot = length_back a (a + slot_words) ws t (omega arith) (omega arith) long ∙ len

  pub slot-own : part 0 own_words back ≡ part 0 own_words ws
  slot-own = part-other a (a + slot_words) ws t (omega arith) (omega arith) long 0 own_words (omega arith) (inl (omega arith))

  pub slot-gateway : gateway_of back ≡ gateway_of ws
  slot-gateway = sym (own-part back) ∙ ap gateway_of slot-own ∙ own-part ws

  slot_same : part a slot_words back ≡ t
  slot_same =
      let w : a + slot_words - a ≡ slot_words = omega arith in
      ap (λ (k : ℕ). take k (drop a back)) (sym w) ∙ part_same a (a + slot_words) ws t (omega arith) (omega arith) long

  slot-side : (j : ℕ) → j ≢ i → (slot_place j + slot_words ≤ a) ⊎ (a + slot_words ≤ slot_place j)
  slot-side j ne =
      by-test (ltb j i) (λ q. inl (omega (arith, ltb-true j i q)))
      (λ q. inr (let g : i ≤ j = ltb-false j i q in let n : j ≢ i = ne in omega arith))

  pub slot-other : (j : ℕ) → j < circuits → j ≢ i → part (slot_place j) slot_words back ≡ part (slot_place j) slot_words ws
  slot-other j lj ne = part-other a (a + slot_words) ws t (omega arith) (omega arith) long (slot_place j) slot_words (omega arith) (slot-side j ne)

  -- .. with the octets of its frame put back too
  module _ (fs fs' : List ℕ) (others : (j : ℕ) → j < circuits → j ≢ i → part (octets_place j) most_octets fs' ≡ part (octets_place j) most_octets fs) where
    pub slot-put : whole_of back fs'
        ≡ with_frames (gateway_of ws) (set (whole_of ws fs).unfinished i (meant (part (octets_place i) most_octets fs') (pending_of t)))
    unfolding whole_of unfinished_at
    slot-put =
        let u = tabulate-set (unfinished_at back fs') (unfinished_at ws fs) circuits i (meant (part (octets_place i) most_octets fs') (pending_of t)) lt
        (ap (λ (p : List ℕ). meant (part (octets_place i) most_octets fs') (pending_of p)) slot_same)
        (λ j lj ne. cc (slot-other j lj ne, others j lj ne)) in
        cc (slot-gateway, u)

-- ---- setup: no frame is begun

-- so on the circuits before i; the gateway's own words are as they were
pub record Dropped (ws ws' : List ℕ) (i : ℕ) : Type 0 where
  pub own : gateway_of ws' ≡ gateway_of ws
  pub none : (fs : List ℕ) (j : ℕ) → j < i → unfinished_at ws' fs j ≡ NoFrame

pub dropped-next : (ws₀ ws t : List ℕ) (len : length ws ≡ gateway_words) (i : ℕ) (lt : i < circuits) (long : length t ≡ slot_place i + slot_words - slot_place i)
    → pending_of t ≡ None → Dropped ws₀ ws i → Dropped ws₀ (put_mid (slot_place i) (slot_place i + slot_words - slot_place i) ws t) (i + 1)
unfolding unfinished_at
dropped-next ws₀ ws t len i lt long idle d =
    record {
      own = slot-gateway ws t len i lt long ∙ d.own;
      none = λ fs j h.
          by-test (eqb j i)
          (λ q. let e = eqb-true j i q in
          rw e (ap (λ (p : List ℕ). meant (part (octets_place i) most_octets fs) (pending_of p)) (slot_same ws t len i lt long) ∙ ap (meant (part (octets_place i) most_octets fs)) idle))
          (λ q. let ne : j ≢ i = eqb-false j i q in
          ap (λ (p : List ℕ). meant (part (octets_place j) most_octets fs) (pending_of p)) (slot-other ws t len i lt long j (omega arith) ne) ∙ d.none fs j (omega arith));
    }

pub dropped-all : (ws ws' : List ℕ) (i : ℕ) → circuits ≤ i → Dropped ws ws' i → (fs : List ℕ) → whole_of ws' fs ≡ with_frames (whole_of ws fs) no_frames
unfolding whole_of
dropped-all ws ws' i le d fs =
    let u : tabulate (unfinished_at ws' fs) circuits ≡ no_frames = tabulate-same (unfinished_at ws' fs) (λ j. NoFrame) circuits (λ j lj. d.none fs j (omega arith)) in
    cc (d.own, u)

-- the own words are those of the memory before
own-left : (ws ws' : List ℕ) → ((fs : List ℕ) → whole_of ws' fs ≡ with_frames (whole_of ws fs) no_frames) → gateway_of ws' ≡ gateway_of ws
unfolding whole_of gateway_of
own-left ws ws' d = ap (λ (g : Gateway). with_frames g no_frames) (d [])

-- ---- setup, of the own words and of the memory whole

-- refused: what stood before stands
stood : (ws fs : List ℕ) (x : ℕ) (o : Setup) → Refused x ≡ report_in o → whole_of ws fs ≡ started_in (whole_of ws fs) o
stood ws fs x (RefusedSetup n) e = refl
stood ws fs x (Started g hellos) e = absurd (let z : ◌≡◌ {A = ℕ} 0 1 = cc in omega arith)

pub own-refused : {o : Setup} {ws ws' : List ℕ} {x : Refusal} → SetsUp o ws ws' (Err x) → SetsUpWhole o ws ws' (Err x)
own-refused {o} {ws} {ws'} {x} m fs =
    record {
      answer = m.answer;
      next = ap (λ (w : List ℕ). whole_of w fs) (m.kept (refusal_no x) refl) ∙ stood ws fs (refusal_no x) o m.answer;
      kept = m.kept;
    }

-- done: a new gateway, whatever stood before
new : (g before before' : Gateway) (hellos : HelloOrders) (o : Setup) → report_of (Ok hellos) ≡ report_in o → g ≡ started_in before o → g ≡ started_in before' o
new g before before' hellos (RefusedSetup n) e q = absurd (let z : ◌≡◌ {A = ℕ} 0 1 = cc in omega arith)
new g before before' hellos (Started d h) e q = q

pub own-started : {o : Setup} {ws ws' : List ℕ} {hellos : HelloOrders} → SetsUp o ws ws' (Ok hellos) → ((fs : List ℕ) → (whole_of ws' fs).unfinished ≡ no_frames)
    → SetsUpWhole o ws ws' (Ok hellos)
unfolding whole_of gateway_of
own-started {o} {ws} {ws'} {hellos} m d fs =
    record {
      answer = m.answer;
      next = ap (with_frames (gateway_of ws')) (d fs) ∙ new (gateway_of ws') (gateway_of ws) (whole_of ws fs) hellos o m.answer m.next;
      kept = m.kept;
    }

-- with equal settings
pub same_whole : {s s' : Settings} {ws ws' : List ℕ} {r : Result HelloOrders Refusal} → s ≡ s' → SetsUpWhole (setup s) ws ws' r → SetsUpWhole (setup s') ws ws' r
same_whole e m = rw e at m

-- ---- the own words lent and put back

module _ (ws t : List ℕ) (len : length ws ≡ gateway_words) (lt : length t ≡ length (part 0 own_words ws)) where
  setup-back : {o : Setup} {r : Result HelloOrders Refusal} → SetsUp o (part 0 own_words ws) t r → SetsUp o ws (put_mid 0 own_words ws t) r
  setup-back {o} m =
      record {
        answer = m.answer;
        next = gateway-back ws t len lt ∙ m.next ∙ ap (λ (g : Gateway). started_in g o) (own-part ws);
        kept = λ x e. ap (put_mid 0 own_words ws) (m.kept x e) ∙ put_same 0 own_words ws;
      }

  pub whole-refused : {o : Setup} {r : Result HelloOrders Refusal} {x : Refusal} → SetsUp o (part 0 own_words ws) t r → r ≡ Err x
      → SetsUpWhole o ws (put_mid 0 own_words ws t) (Err x)
  whole-refused m e = own-refused (rw e at (setup-back m))

  pub whole-started : {o : Setup} {r : Result HelloOrders Refusal} {hellos : HelloOrders} (ws' : List ℕ) → SetsUp o (part 0 own_words ws) t r → r ≡ Ok hellos
      → ((fs : List ℕ) → whole_of ws' fs ≡ with_frames (whole_of (put_mid 0 own_words ws t) fs) no_frames) → SetsUpWhole o ws ws' (Ok hellos)
  whole-started {o} {r} {hellos} ws' m e d =
      let b : SetsUp o ws (put_mid 0 own_words ws t) (Ok hellos) = rw e at (setup-back m) in
      own-started
      (record {
        answer = b.answer;
        next = own-left (put_mid 0 own_words ws t) ws' d ∙ b.next;
        kept = λ x q. absurd (let z : ◌≡◌ {A = ℕ} 0 1 = cc in omega arith);
      })
      (λ fs. ap (λ (g : Gateway). g.unfinished) (d fs))

  -- its parts
  control-back : part 0 control_words (put_mid 0 own_words ws t) ≡ part 0 control_words t
  control-back = sym (own-control (put_mid 0 own_words ws t)) ∙ ap (part 0 control_words) (own_back ws t len lt)

  pub puts_whole : {i : ℕ} {s : Circuit} → PutsCircuit i s (part 0 own_words ws) t → PutsCircuit i s ws (put_mid 0 own_words ws t)
  puts_whole {i} {s} m =
      record {
        own = λ h. ap (λ (x : List ℕ). circuit_at x i) control-back ∙ m.own h;
        others = λ j ne. ap (λ (x : List ℕ). circuit_at x j) control-back ∙ m.others j ne ∙ ap (λ (x : List ℕ). circuit_at x j) (own-control ws);
        rooms = ap (λ (g : Gateway). g.rooms) (gateway-back ws t len lt) ∙ m.rooms ∙ ap (λ (g : Gateway). set g.rooms i (new_room s)) (own-part ws);
        kept = λ h. ap (put_mid 0 own_words ws) (m.kept h) ∙ put_same 0 own_words ws;
      }

  pub starts-whole : {b : Basis} {hellos : Hellos} (ws' : List ℕ) → Begins b (part 0 own_words ws) t hellos
      → ((fs : List ℕ) → whole_of ws' fs ≡ with_frames (whole_of (put_mid 0 own_words ws t) fs) no_frames) → Starts b ws ws' hellos
  starts-whole {b} ws' m d =
      record {
        begins = record {
          next =
              own-left (put_mid 0 own_words ws t) ws' d ∙ gateway-back ws t len lt ∙ m.next
              ∙ (λ i. with_common (own-part ws i) (setup_common (settings_on b (circuits_from (own-control ws i) 0 circuits))));
          ordered = m.ordered ∙ ap (λ (x : List ℕ). start_hellos (start_of (settings_on b (circuits_from x 0 circuits)))) (own-control ws);
        };
        frames = λ fs. ap (λ (g : Gateway). g.unfinished) (d fs);
      }

pub starts-as : {b b' : Basis} {ws ws' : List ℕ} {h : Hellos} → b ≡ b' → Starts b ws ws' h → Starts b' ws ws' h
starts-as e h = rw (← e) h
