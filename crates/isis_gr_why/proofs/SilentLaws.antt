-- Why a frame ordered no CSNPs, read off its answer and the two memories: the key and the line that the answer tells are the frame's own.
use Prim.Native.Nat.{ℕ, ◌+◌, ◌-◌, ◌<◌, ◌≤◌}
use mathlib.Core.Path.{◌≡◌, refl, sym, ap, ◌∙◌}
use mathlib.Core.Bool.{Bool, true, false, not, true≢false}
use mathlib.Core.List.{List, [], ◌∷◌}
use mathlib.Core.Logic.{⊎_elim}
use types.Run.{OneOf}
use denote.Enum.Declared.{tag_of}
use Rattle.adjacency.specs.contracts.marks.Line.{the_type}
use native.Mathlib.Omega.{arith}
use Rattle.basics.proofs.BoolLaws.{neither}
use Rattle.basics.specs.Lists.{part}
use Rattle.basics.specs.Mask.{circuits}
use Rattle.basics.specs.declared.kind.CircuitKind.{CircuitKind}
use Rattle.basics.specs.declared.kind.CircuitKind.TheVariants.{Lan as LanCircuit, P2p as P2pCircuit}
use Rattle.basics.specs.declared.levels.Levels.{Levels}
use Rattle.restart_tlv.specs.declared.writer.Ack.TheVariants.{Restart as RestartAck, Planned as PlannedAck}
use Rattle.hello.proofs.KindLaws.{read-kind}
use Rattle.hello.specs.Hello.{kind_of}
use Rattle.hello.specs.declared.read.Hello.{Hello}
use Rattle.hello.specs.declared.read.Link.{Link}
use Rattle.hello.specs.declared.read.Link.TheVariants.{Lan, P2p}
use Rattle.adjacency.proofs.KeysLaws.{key-level}
use Rattle.adjacency.specs.Keys.{key_on, level_in, key_in}
use Rattle.adjacency.specs.React.{line_in, react_of}
use Rattle.adjacency.specs.Step.{wrong_source, level_off}
use Rattle.adjacency.specs.declared.marks.Line.{Line}
use Rattle.adjacency.specs.declared.marks.Line.TheVariants.{One, Two, Three, Four, Five}
use Rattle.adjacency.specs.declared.record.Key.{Key}
use Rattle.adjacency.specs.declared.step.Here.{Here}
use Rattle.slots.specs.Slots.{table_of, room_words}
use Rattle.settings.specs.declared.circuit.Circuit.{Circuit}
use Rattle.control.specs.Common.{circuit_of}
use Rattle.model.specs.Answers.{Answer, Received, FrameAnswer, frame_answer}
use Rattle.model.specs.Gateway.{Gateway, room_of, record_at}
use Rattle.model.specs.Numbers.{reply_flags, is_ordered}
use Rattle.model.specs.Receive.{here_of, rank_of}
use Rattle.model.specs.Step.{Call, At, Receive, asks_level, step}
use Rattle.model.specs.declared.answers.Orders.{Orders}
use Rattle.own_words.proofs.WordLaws.{room-of}
use Rattle.own_words.specs.Words.{gateway_of, room_place}
use Rattle.reasons.proofs.FrameLaws.{Took, took}
use Rattle.reasons.proofs.LineLaws.{line-restart, line-planned, line-silent}
use Rattle.reasons.specs.Duty.{duty_in}
use Rattle.reasons.specs.Why.{Why, NotSo, Fits, line_no, by_duty, by_line, stands_on, standing, fits_read, fits_on, unordered, no_csnps}
use Rattle.reasons.specs.declared.why.Router.{Router}
use Rattle.isis_gr_why.proofs.StandingLaws.{standing_by}
use Rattle.isis_gr_why.specs.Told.{line_told}
use Rattle.std.specs.Prelude.{Option, Some, None, Ok}
use Rattle.restart_tlv.specs.declared.writer.Ack.{Ack}
use Rattle.adjacency.specs.declared.record.State.{State}

-- ---- who has the duty

module _ (ws ws' : List ℕ) (n : ℕ) (s : Circuit) (known : circuit_of (gateway_of ws).common n ≡ Some s) where
  abbrev a : ℕ
  a = room_place (n - 1)

  pub outranked-by : 0 < n → n ≤ circuits → (level : ℕ) (d : Option Router)
      → d ≡ duty_in (record { level = level; priority = s.priority; mac = s.mac }) (table_of (part a (a + room_words - a) ws'))
      → (t : Circuit) (h : Hello) → circuit_of (gateway_of ws).common n ≡ Some t → level ≡ level_in h.link
      → by_duty d ≡ by_duty (duty_in (rank_of t h) (room_of (gateway_of ws') n).slots)
  outranked-by lo hi level d e t h k q =
      let same : s ≡ t = cc in
      ap by_duty (e ∙ (λ i. duty_in (record { level = q i; priority = (same i).priority; mac = (same i).mac }) (room-of ws' n lo hi i)))

pub not-unknown : (g : Gateway) (n : ℕ) (s : Circuit) → circuit_of g.common n ≡ None → circuit_of g.common n ≡ Some s → ⊥
not-unknown g n s e k = let z : ◌≡◌ {A = ℕ} 0 1 = cc in omega arith

-- every line but line 1 is named
pub by-line-fits : (line : Line) → OneOf (1 ∷ 2 ∷ 3 ∷ 4 ∷ []) (tag_of the_type line) → (d : Option Router) → Fits (line_no line) ≡ by_line line d
by-line-fits One h d = absurd (⊎_elim (λ e. omega arith) (⊎_elim (λ e. omega arith) (⊎_elim (λ e. omega arith) (λ e. omega arith))) h)
by-line-fits Two h d = refl
by-line-fits Three h d = refl
by-line-fits Four h d = refl
by-line-fits Five h d = refl

-- ---- what the answer tells of the frame

asked-there : (kind : CircuitKind) (l : Levels) (link : Link) → kind_of link ≡ kind → level_off l link ≡ false → asks_level kind l (level_in link) ≡ true
asked-there LanCircuit l (Lan level priority listed) e off = not-false _ off
  where
    not-false : (x : Bool) → not x ≡ false → x ≡ true
    not-false true f = refl
    not-false false f = absurd (true≢false f)
asked-there P2pCircuit l (Lan level priority listed) e off = refl
asked-there LanCircuit l (P2p t) e off = absurd (let z : ◌≡◌ {A = ℕ} 0 1 = cc in omega arith)
asked-there P2pCircuit l (P2p t) e off = refl

key-system : (kind : CircuitKind) (k : Key) → (key_on kind k).system ≡ k.system
unfolding key_on
key-system LanCircuit k = refl
key-system P2pCircuit k = refl

line-is : (here : Here) (h : Hello) (before after : Option State) (reply : Option (Ack × ℕ)) (line : Line) → react_of here h before ≡ Ok (after, reply, line)
    → line_told (reply_flags reply) before ≡ line
line-is here h before after None line e = sym (line-silent here h before after None line e refl)
line-is here h before after (Some (RestartAck, time)) line e = sym (line-restart here h before after (Some (RestartAck, time)) line e time refl)
line-is here h before after (Some (PlannedAck, time)) line e = sym (line-planned here h before after (Some (PlannedAck, time)) line e time refl)

module _ (g : Gateway) (n mac : ℕ) (frame b : List ℕ) (o : Orders) (t : Took g n mac frame b (frame_answer o)) where
  abbrev s : Circuit
  s = t.settings

  abbrev h : Hello
  h = t.hello

  abbrev k : Key
  k = key_in s.kind mac h

  kind-read : kind_of h.link ≡ s.kind
  kind-read = read-kind s.kind s.mac frame h t.reads

  told-level : o.change.level ≡ level_in h.link
  told-level = ap (λ (f : FrameAnswer). f.change.level) t.answer ∙ key-level s.kind mac h kind-read

  told-system : o.change.system ≡ h.system
  told-system = ap (λ (f : FrameAnswer). f.change.system) t.answer ∙ key-system s.kind (record { level = level_in h.link; system = h.system; mac = mac })

  -- the record before is that of the frame's key
  there : (level system : ℕ) → level ≡ level_in h.link → system ≡ h.system
      → stands_on g n (record { level = level; system = system; mac = mac }) (Some s) ≡ record_at g n k
  unfolding stands_on wrong_source
  there level system p q =
      rw (p, q, asked-there s.kind s.levels h.link kind-read (neither (level_off s.levels h.link) _ t.source).0) refl

  told-record : standing g n (record { level = o.change.level; system = o.change.system; mac = mac }) ≡ record_at g n k
  told-record = sym (standing_by g n _ (Some s) t.known) ∙ there o.change.level o.change.system told-level told-system

  told_line : line_told (reply_flags o.reply) (record_at g n k) ≡ line_in (here_of g.common s) h (record_at g n k)
  unfolding record_at
  told_line =
      ap (λ (x : ℕ). line_told x (record_at g n k)) (ap (λ (f : FrameAnswer). f.reply) t.answer)
      ∙ line-is (here_of g.common s) h _ t.after t.reply t.line t.reacts ∙ t.fits

  silent-is : (a : Answer) → a ≡ Received (frame_answer o) → is_ordered o.csnps ≡ false → (next : Gateway)
      → by_line (line_in (here_of g.common s) h (record_at g n k)) (duty_in (rank_of s h) (room_of next n).slots) ≡ unordered a (fits_on g next n mac frame (circuit_of g.common n))
  unfolding unordered fits_on fits_read
  silent-is a p e next = rw (p, e, t.known, t.reads) refl

module _ (g : Gateway) (n mac : ℕ) (frame b : List ℕ) (o : Orders) where
  -- the call is given by an equation, as the code has it
  abbrev pub Silent : Call → Why → Type 0
  Silent c w = Received (frame_answer o) ≡ (step g c).answer → w ≡ no_csnps g c (step g c)

  ordered_at : is_ordered o.csnps ≡ true → Silent (At n (Receive mac frame b)) NotSo
  unfolding unordered
  ordered_at e q = rw (← q, e) refl

  pub silent-ordered : is_ordered o.csnps ≡ true → (c : Call) → c ≡ At n (Receive mac frame b) → Silent c NotSo
  silent-ordered e c p = rw p (ordered_at e)

  module _ (e : is_ordered o.csnps ≡ false) (stood : Option State) (se : stood ≡ standing g n (record { level = o.change.level; system = o.change.system; mac = mac }))
      (line : Line) (le : line ≡ line_told (reply_flags o.reply) stood) (w : Why) (next : Gateway)
      (f : (t : Circuit) (j : Hello) → circuit_of g.common n ≡ Some t → o.change.level ≡ level_in j.link → w ≡ by_line line (duty_in (rank_of t j) (room_of next n).slots)) where
    fits-at : next ≡ (step g (At n (Receive mac frame b))).next → Silent (At n (Receive mac frame b)) w
    fits-at ne q =
        let t = took g n mac frame b (frame_answer o) (sym q) in
        let l = le ∙ ap (line_told (reply_flags o.reply)) (se ∙ told-record g n mac frame b o t) ∙ told_line g n mac frame b o t in
        f t.settings t.hello t.known (told-level g n mac frame b o t)
        ∙ (λ i. by_line (l i) (duty_in (rank_of t.settings t.hello) (room_of (ne i) n).slots)) ∙ silent-is g n mac frame b o t _ (sym q) e _

    pub silent-fits : (c : Call) → c ≡ At n (Receive mac frame b) → next ≡ (step g c).next → Silent c w
    silent-fits c p = rw p fits-at
