-- The claims of document 02, W-204: the reason that is named holds of the step's outcome, and "not so" is told wherever the document says. For the code's
-- contracts, which name why_of.
use Prim.Native.Nat.{ℕ, ◌≤◌}
use native.Mathlib.Omega.{arith}
use mathlib.Core.Path.{◌≡◌, refl, sym, ap, ◌∙◌}
use mathlib.Core.Bool.{true, false, true≢false, false≢true}
use mathlib.Core.List.{List}
use mathlib.Core.Logic.{inl, inr}
use lib.Dec.{eqb}
use borrow.Author.Tests.{not-true}
use Rattle.basics.specs.declared.kind.CircuitKind.TheVariants.{Lan}
use Rattle.basics.specs.declared.levels.Levels.{Levels}
use Rattle.basics.proofs.BoolLaws.{by-test}
use Rattle.hello.specs.Hello.{kind_of}
use Rattle.hello.specs.declared.read.Link.{Link}
use Rattle.hello.specs.declared.read.Link.TheVariants.{Lan as LanLink, P2p as P2pLink}
use Rattle.hello.proofs.KindLaws.{read-kind}
use Rattle.adjacency.specs.Duty.{csnps_of}
use Rattle.adjacency.specs.Record.{phase_of, suppressed_of}
use Rattle.adjacency.specs.declared.duty.Rank.{Rank}
use Rattle.adjacency.specs.declared.marks.Line.{Line}
use Rattle.adjacency.specs.declared.marks.Line.TheVariants.{One, Two, Three, Four, Five}
use Rattle.adjacency.specs.declared.place.Slot.{Slot}
use Rattle.adjacency.specs.declared.record.Key.{Key}
use Rattle.adjacency.specs.declared.record.State.{State}
use Rattle.adjacency.specs.declared.record.State.TheVariants.{Init as InitState, Up as UpState}
use Rattle.room.specs.Accept.{csnps_in}
use Rattle.room.specs.Table.{any_outranks}
use Rattle.control.specs.Common.{circuit_of}
use Rattle.model.specs.Numbers.{is_ordered}
use Rattle.model.specs.Answers.{Answer, Refused as RefusedAnswer, Received, Ticked, Told, FrameAnswer, is_shown}
use Rattle.model.specs.Gateway.{Gateway, room_of}
use Rattle.model.specs.Receive.{rank_of}
use Rattle.model.specs.Step.{Receive, Release, Clear, CsnpComplete, LookUp, LinkMetric, NextHello, Tick, DatabaseComplete, Waiting, Call, At, Over, Hand, step}
use Rattle.reasons.specs.Duty.{duty_in}
use Rattle.reasons.specs.Holds.{orders_csnps, leaves, Went, NotAsAsked, Unshown, Gone, Unordered, FitsLine, Silent, WhyHolds, NotSoExactly}
use Rattle.reasons.specs.Why.{Why, NotSo, line_no, standing, unknown, turned_away, not_advertised, gone_by, vanished, by_line, fits_read, fits_on, unordered, no_csnps, why_of}
use Rattle.reasons.specs.declared.why.Router.{Router}
use Rattle.std.specs.Prelude.{Option, Some, None}
use Rattle.reasons.specs.declared.why.Question.TheVariants.{NotAdvertised, Vanished, NoCsnps}
use Rattle.reasons.proofs.DutyLaws.{duty-greatest, duty-ours}
use Rattle.reasons.proofs.FrameLaws.{Took, took, took-ordered, Said, refusing, receiving, receive-said}
use Rattle.reasons.proofs.StandingLaws.{went-lost}
use Rattle.std.specs.Prelude.{Option, Some, None}

-- ---- not advertised

unknown-holds : (g : Gateway) (c : Call) (n : ℕ) (k : Key) (a : Answer) → (step g c).answer ≡ a → leaves g c n k ≡ None
    → Unshown g c n k (unknown n c a)
unfolding turned_away
unknown-holds g (At m (Receive mac frame b)) n k (RefusedAnswer x) e z =
    by-test (eqb m n) (λ q. rw q (z, q, e)) (λ q. rw q (z, λ y r s. true≢false (sym r ∙ q)))
unknown-holds g (At m (Receive mac frame b)) n k (Received f) e z = (z, λ y r s. let w : ◌≡◌ {A = ℕ} 0 1 = cc in omega arith)
unknown-holds g (At m (Receive mac frame b)) n k (Ticked lost hellos t) e z = (z, λ y r s. let w : ◌≡◌ {A = ℕ} 0 1 = cc in omega arith)
unknown-holds g (At m (Receive mac frame b)) n k (Told f) e z = (z, λ y r s. let w : ◌≡◌ {A = ℕ} 0 1 = cc in omega arith)
unknown-holds g (At m Release) n k a e z = (z, λ y r s. false≢true r)
unknown-holds g (At m Clear) n k a e z = (z, λ y r s. false≢true r)
unknown-holds g (At m (CsnpComplete level)) n k a e z = (z, λ y r s. false≢true r)
unknown-holds g (At m (LookUp j)) n k a e z = (z, λ y r s. false≢true r)
unknown-holds g (At m LinkMetric) n k a e z = (z, λ y r s. false≢true r)
unknown-holds g (At m (NextHello level)) n k a e z = (z, λ y r s. false≢true r)
unknown-holds g (Over w) n k a e z = (z, λ y r s. false≢true r)
unknown-holds g (Hand m p) n k a e z = (z, λ y r s. false≢true r)

unshown-holds : (g : Gateway) (c : Call) (n : ℕ) (k : Key) (a : Option State) → leaves g c n k ≡ a
    → Unshown g c n k (not_advertised n c (step g c).answer a)
unfolding not_advertised
unshown-holds g c n k None e = unknown-holds g c n k (step g c).answer refl e
unshown-holds g c n k (Some (InitState d)) e = ap phase_of e
unshown-holds g c n k (Some (UpState d m)) e =
    by-test d.suppressed (λ q. rw q (ap phase_of e, ap suppressed_of e ∙ q)) (λ q. rw q (ap is_shown e ∙ rw q refl))

-- ---- vanished

gone-holds : (g : Gateway) (c : Call) (n : ℕ) (k : Key) (s : State) → Went g c n k s → Gone g c n k (gone_by c)
unfolding gone_by
gone-holds g (At m (Receive mac frame b)) n k s w = λ v u. (went-lost g _ n k v u).1
gone-holds g (At m Release) n k s w =
    let l = went-lost g (At m Release) n k s w in
    record { state = s; went = w; release = ap (λ (i : ℕ). At i Release) l.0; planned = l.1 }
gone-holds g (At m Clear) n k s w =
    record { state = s; went = w; clear = ap (λ (i : ℕ). At i Clear) (went-lost g (At m Clear) n k s w).0 }
gone-holds g (At m (CsnpComplete level)) n k s w = λ v u. (went-lost g _ n k v u).1
gone-holds g (At m (LookUp j)) n k s w = λ v u. (went-lost g _ n k v u).1
gone-holds g (At m LinkMetric) n k s w = λ v u. (went-lost g _ n k v u).1
gone-holds g (At m (NextHello level)) n k s w = λ v u. (went-lost g _ n k v u).1
gone-holds g (Over (Tick clock)) n k s w =
    record { state = s; went = w; clock = clock; tick = refl; reached = went-lost g (Over (Tick clock)) n k s w }
gone-holds g (Over (DatabaseComplete level)) n k s w = λ v u. went-lost g _ n k v u
gone-holds g (Over Waiting) n k s w = λ v u. went-lost g _ n k v u
gone-holds g (Hand m p) n k s w = λ v u. went-lost g _ n k v u

vanished-holds : (g : Gateway) (c : Call) (n : ℕ) (k : Key) (before after : Option State) → standing g n k ≡ before → leaves g c n k ≡ after
    → Gone g c n k (vanished c before after)
unfolding vanished
vanished-holds g c n k None after p e = λ s w. let z : ◌≡◌ {A = ℕ} 0 1 = cc in omega arith
vanished-holds g c n k (Some s) (Some v) p e = λ u w. let z : ◌≡◌ {A = ℕ} 0 1 = cc in omega arith
vanished-holds g c n k (Some s) None p e = gone-holds g c n k s (record { stood = p; gone = e })

-- ---- no CSNPs

-- line 1 fitted, and yet no CSNPs were ordered: on a LAN, and some router outranks us
record Outdone (link : Link) (rank : Rank) (t : List Slot) : Type 0 where
  lan : kind_of link ≡ Lan
  some : any_outranks rank t ≡ true

outdone : (rank : Rank) (l : Levels) (link : Link) (t : List Slot) → is_ordered (csnps_in rank One l link t) ≡ false → Outdone link rank t
unfolding csnps_in csnps_of
outdone rank l (P2pLink w) t e = absurd (true≢false e)
outdone rank l (LanLink level priority listed) t e =
    by-test (any_outranks rank t) (λ a. record { lan = refl; some = a }) (λ a. absurd (true≢false (rw a at e)))

module _ (g : Gateway) (m mac : ℕ) (frame b : List ℕ) (n : ℕ) (k : Key) where
  abbrev call : Call
  call = At m (Receive mac frame b)

  module _ (f : FrameAnswer) (e : (step g call).answer ≡ Received f) (q : f.ordered ≡ false) (t : Took g m mac frame b f) where
    abbrev taken : Unordered g call
    taken =
        record {
          circuit = m;
          settings = t.settings;
          mac = mac;
          octets = frame;
          buffer = b;
          hello = t.hello;
          answer = f;
          receives = refl;
          known = t.known;
          reads = t.reads;
          accepted = e;
          without = q;
        }

    abbrev rank : Rank
    rank = rank_of t.settings t.hello

    abbrev places : List Slot
    places = (room_of (step g call).next m).slots

    first_fits : t.line ≡ One → Outdone t.hello.link rank places
    first_fits p = outdone rank t.settings.levels t.hello.link places (rw p at (sym (took-ordered g m mac frame b f t) ∙ q))

    later-fits : (l : Line) → t.line ≡ l → 2 ≤ line_no l → line_no l ≤ 5 → FitsLine g call (line_no l)
    later-fits l p low high = record { frame = taken; fits = ap line_no (sym t.fits ∙ p); least = low; most = high }

    line-holds : (l : Line) → t.line ≡ l → (d : Option Router) → duty_in rank places ≡ d → Silent g call n k (by_line l d)
    line-holds One p None u = absurd (true≢false (sym (first_fits p).some ∙ duty-ours rank places u))
    line-holds One p (Some d) u =
        record {
          frame = taken;
          fits = sym t.fits ∙ p;
          lan = sym (read-kind _ _ frame t.hello t.reads) ∙ (first_fits p).lan;
          greatest = duty-greatest rank places d.system d.priority d.mac u;
        }
    line-holds Two p d u = later-fits Two p (omega arith) (omega arith)
    line-holds Three p d u = later-fits Three p (omega arith) (omega arith)
    line-holds Four p d u = later-fits Four p (omega arith) (omega arith)
    line-holds Five p d u = later-fits Five p (omega arith) (omega arith)

    fits-holds : Silent g call n k (fits_on g (step g call).next m mac frame (circuit_of g.common m))
    unfolding fits_on fits_read
    fits-holds = rw (t.known, t.reads) (line-holds _ t.fits _ refl)

  silent-holds : (a : Answer) → Said a → (step g call).answer ≡ a
      → Silent g call n k (unordered a (fits_on g (step g call).next m mac frame (circuit_of g.common m)))
  unfolding unordered
  silent-holds (RefusedAnswer x) refusing e = (refl, e)
  silent-holds (Received f) receiving e =
      by-test f.ordered (λ q. rw q (inl (ap orders_csnps e ∙ q))) (λ q. rw q (fits-holds f e q (took g m mac frame b f e)))
  silent-holds (Ticked lost hellos t) h e = elim h [ ]
  silent-holds (Told f) h e = elim h [ ]

no-csnps-holds : (g : Gateway) (c : Call) (n : ℕ) (k : Key) → Silent g c n k (no_csnps g c (step g c))
no-csnps-holds g (At m (Receive mac frame b)) n k =
    silent-holds g m mac frame b n k (step g (At m (Receive mac frame b))).answer (receive-said g m mac frame b) refl
no-csnps-holds g (At m Release) n k = inr refl
no-csnps-holds g (At m Clear) n k = inr refl
no-csnps-holds g (At m (CsnpComplete level)) n k = inr refl
no-csnps-holds g (At m (LookUp j)) n k = inr refl
no-csnps-holds g (At m LinkMetric) n k = inr refl
no-csnps-holds g (At m (NextHello level)) n k = inr refl
no-csnps-holds g (Over w) n k = inr refl
no-csnps-holds g (Hand m p) n k = inr refl

-- ---- the claims

pub why-holds : WhyHolds
unfolding why_of
why-holds NotAdvertised g c n k = unshown-holds g c n k (leaves g c n k) refl
why-holds Vanished g c n k = vanished-holds g c n k (standing g n k) (leaves g c n k) refl refl
why-holds NoCsnps g c n k = no-csnps-holds g c n k

shown-not-so : (n : ℕ) (c : Call) (a : Answer) (left : Option State) → is_shown left ≡ true → not_advertised n c a left ≡ NotSo
unfolding not_advertised
shown-not-so n c a None e = absurd (false≢true e)
shown-not-so n c a (Some (InitState d)) e = absurd (false≢true e)
shown-not-so n c a (Some (UpState d m)) e = rw (not-true d.suppressed e) refl

stayed-not-so : (g : Gateway) (c : Call) (n : ℕ) (k : Key) (before after : Option State) → standing g n k ≡ before → leaves g c n k ≡ after
    → NotAsAsked Vanished g c n k → vanished c before after ≡ NotSo
unfolding vanished
stayed-not-so g c n k None after p e h = refl
stayed-not-so g c n k (Some s) (Some v) p e h = refl
stayed-not-so g c n k (Some s) None p e h = absurd (h s (record { stood = p; gone = e }))

ordered-not-so : (a : Answer) (w : Why) → orders_csnps a ≡ true → unordered a w ≡ NotSo
unfolding unordered
ordered-not-so (RefusedAnswer x) w e = absurd (false≢true e)
ordered-not-so (Received f) w e = rw e refl
ordered-not-so (Ticked lost hellos t) w e = refl
ordered-not-so (Told f) w e = refl

csnps-not-so : (g : Gateway) (c : Call) (n : ℕ) (k : Key) → NotAsAsked NoCsnps g c n k → no_csnps g c (step g c) ≡ NotSo
csnps-not-so g (At m (Receive mac frame b)) n k (inl e) = ordered-not-so _ _ e
csnps-not-so g (At m (Receive mac frame b)) n k (inr e) = absurd (true≢false e)
csnps-not-so g (At m Release) n k h = refl
csnps-not-so g (At m Clear) n k h = refl
csnps-not-so g (At m (CsnpComplete level)) n k h = refl
csnps-not-so g (At m (LookUp j)) n k h = refl
csnps-not-so g (At m LinkMetric) n k h = refl
csnps-not-so g (At m (NextHello level)) n k h = refl
csnps-not-so g (Over w) n k h = refl
csnps-not-so g (Hand m p) n k h = refl

pub not-so-exactly : NotSoExactly
unfolding why_of
not-so-exactly NotAdvertised g c n k h = shown-not-so n c (step g c).answer (leaves g c n k) h
not-so-exactly Vanished g c n k h = stayed-not-so g c n k (standing g n k) (leaves g c n k) refl refl h
not-so-exactly NoCsnps g c n k h = csnps-not-so g c n k h
