-- What every call leaves of the common part, whatever it answers: setup's settings, a clock that does not fall, and timers of which setup's
-- settings and the mode say what they said before.
use Prim.Native.Nat.{ℕ, zero, suc, ◌-◌, ◌≤◌}
use native.Mathlib.Omega.{arith}
use mathlib.Core.Path.{◌≡◌, refl, ◌∙◌}
use mathlib.Core.Bool.{Bool, true, false}
use mathlib.Core.List.{List}
use lib.ListN.{length}
use lib.Dec.{ltb}
use borrow.Author.Tests.{ltb-true, ltb-false, not-false}
use Rattle.basics.proofs.BoolLaws.{by-test, neither}
use Rattle.basics.specs.Levels.{only_level, has_level}
use Rattle.basics.specs.declared.kind.CircuitKind.{CircuitKind}
use Rattle.basics.specs.declared.kind.CircuitKind.TheVariants.{Lan, P2p}
use Rattle.basics.specs.declared.levels.Levels.{Levels}
use Rattle.hello.specs.Hello.{kind_of, hello_read}
use Rattle.hello.specs.declared.read.Hello.{Hello}
use Rattle.hello.specs.declared.read.Link.{Link}
use Rattle.hello.specs.declared.read.Link.TheVariants.{Lan as LanLink, P2p as P2pLink}
use Rattle.hello.proofs.KindLaws.{read-kind}
use Rattle.adjacency.specs.Keys.{level_in, key_in}
use Rattle.adjacency.specs.Step.{level_off, wrong_source}
use Rattle.adjacency.specs.declared.record.Key.{Key}
use Rattle.room.specs.Accept.{decided}
use Rattle.settings.specs.Mode.{is_running}
use Rattle.settings.specs.Settings.{circuits_of, settings_ok, enabled_levels}
use Rattle.settings.specs.Serving.{t1_place}
use Rattle.settings.specs.declared.circuit.Circuit.{Circuit}
use Rattle.settings.specs.declared.lengths.Lengths.{Lengths}
use Rattle.settings.specs.declared.setup.Settings.{Settings}
use Rattle.timer_parts.specs.declared.heard.Heard.{Heard}
use Rattle.timer_parts.specs.declared.t3.T3.TheVariants.{Idle}
use Rattle.timers.specs.Timers.{Timers, settled, to_t3, heard_in, csnp_in, notice_t2s}
use Rattle.control.specs.Common.{Common, with_clock, with_timers, circuit_of, start_of, setup_common}
use Rattle.chunks.specs.Chunks.{Unfinished, NoFrame, Frame, Joined, Refused as RefusedChunk, As, join}
use Rattle.model.specs.Gateway.{Room, Gateway, unfinished_on, with_unfinished}
use Rattle.model.specs.Receive.{refuse, here_of, said_of, t1_of, accepted, reacted, decided_in, checked, read_in, receive}
use Rattle.model.specs.Step.{Local, Receive, Release, Clear, CsnpComplete, LookUp, LinkMetric, NextHello, Global, Tick, DatabaseComplete, Waiting, Piece, Begin, Chunk, End, Call, At, Over, Hand, asks_level, csnp_of, csnp_complete, look_up, link_metric_of, next_hello, act, lift, on, at, Judged, Refused as RefusedCall, Sweep, Tell, none_of, tick_of, database_of, judge, carry, chunked, ended, hand, hand_on, step}
use Rattle.invariants.specs.Invariants.{Quiet, Restarts, NoT3, SetupSettings, SetupTimers, Onward}
use Rattle.invariants.proofs.QuietLaws.{started-quiet, started-restarts, started-no-t3, settled-quiet, settled-mode, settled-no-t3, settled-restarts, to_t3-mode, heard_in-mode, csnp_in-mode, notice_t2s-mode, to_t3-idle, heard_in-idle, csnp_in-idle, notice_t2s-idle}
use Rattle.invariants.proofs.InRange.{Stands, circuits-ok, tries-ok, t1-asked}
use Rattle.invariants.proofs.SetupTimersLaws.{started-kept, settled-kept, later-kept, to_t3-kept, heard_in-kept, csnp_in-kept, notice_t2s-kept}
use Rattle.std.specs.Prelude.{Option, Some, None, Result, Ok, Err}
use Rattle.adjacency.specs.React.{Reaction}
use Rattle.basics.specs.declared.refusal.Refusal.{Refusal}

-- ---- the timers

-- the settings are still setup's, and in range
pub record Set (l : Lengths) (cs : List Circuit) (s : Settings) : Type 0 where
  pub lengths : l ≡ s.lengths
  pub circuits : cs ≡ circuits_of s
  pub ok : settings_ok s ≡ true

abbrev pub KeptBy : Lengths → List Circuit → ℕ → Timers → Timers → Type 0
KeptBy l cs clock t next = (s : Settings) → Set l cs s → SetupTimers s clock t → SetupTimers s clock next

-- what a call's own step is asked for
pub record Own (l : Lengths) (cs : List Circuit) (clock : ℕ) (t next : Timers) : Type 0 where
  pub mode : next.mode ≡ t.mode
  pub idle : t.t3 ≡ Idle → next.t3 ≡ Idle
  pub kept : KeptBy l cs clock t next

module _ (l : Lengths) (cs : List Circuit) (clock : ℕ) (t : Timers) where
  own-tick : Own l cs clock t (to_t3 l clock t)
  own-tick = record { mode = to_t3-mode l clock t; idle = to_t3-idle l clock t; kept = λ s e h. rw e.lengths (to_t3-kept s clock t h) }

  -- to the T1 of circuit i, which is c, at a level that may be asked for there
  own-heard : (i : ℕ) (c : Circuit) (level : ℕ) (rose : Bool) (d : Heard) → Stands cs i c → asks_level c.kind c.levels level ≡ true
      → Own l cs clock t (heard_in l clock (t1_place c.kind i level) rose d t)
  own-heard i c level rose d stands on =
      let p = t1_place c.kind i level in
      record {
        mode = heard_in-mode l clock p rose d t;
        idle = heard_in-idle l clock p rose d t;
        kept = λ s e h.
            rw e.lengths
            (heard_in-kept s clock t h p rose d (t1-asked s e.ok i c (rw e.circuits at stands) level on) (tries-ok s e.ok));
      }

  own-csnp : (i : ℕ) (n : Levels) → Own l cs clock t (csnp_in i n t)
  own-csnp i n = record { mode = csnp_in-mode i n t; idle = csnp_in-idle i n t; kept = λ s e h. csnp_in-kept s clock t h i n }

  own-database : (n : Levels) → Own l cs clock t (notice_t2s n t)
  own-database n = record { mode = notice_t2s-mode n t; idle = notice_t2s-idle n t; kept = λ s e h. notice_t2s-kept s clock t h n }

-- what the call then gives
pub record Passes (l : Lengths) (cs : List Circuit) (clock : ℕ) (t next : Timers) : Type 0 where
  pub mode : is_running next.mode ≡ false → next.mode ≡ t.mode
  pub quiet : Quiet t → Quiet next
  pub restarts : (s : Settings) → Restarts s t → Restarts s next
  pub no-t3 : NoT3 t → NoT3 next
  pub kept : KeptBy l cs clock t next

passes-settled : (l : Lengths) (cs : List Circuit) (clock : ℕ) (f : Timers → Timers) (t : Timers) → Own l cs clock t (f t)
    → Passes l cs clock t (settled f t)
passes-settled l cs clock f t own =
    record {
      mode = settled-mode f t own.mode;
      quiet = settled-quiet f t own.mode;
      restarts = λ s h. settled-restarts s f t h;
      no-t3 = settled-no-t3 f t own.mode own.idle;
      kept = λ s e h. settled-kept s clock t h f (own.kept s e h);
    }

-- ---- the common part

-- a call that does not move the clock
pub record Keeps (c d : Common) : Type 0 where
  pub system : d.system ≡ c.system
  pub lengths : d.lengths ≡ c.lengths
  pub circuits : d.circuits ≡ c.circuits
  pub clock : d.clock ≡ c.clock
  pub timers : Passes c.lengths c.circuits c.clock c.timers d.timers

keeps_same : (c : Common) → Keeps c c
keeps_same c =
    record {
      system = refl;
      lengths = refl;
      circuits = refl;
      clock = refl;
      timers = record { mode = λ e. refl; quiet = λ q. q; restarts = λ s h. h; no-t3 = λ h. h; kept = λ s e h. h };
    }

keeps-settled : (c : Common) (f : Timers → Timers) → Own c.lengths c.circuits c.clock c.timers (f c.timers) → Keeps c (with_timers (settled f c.timers) c)
keeps-settled c f own =
    record { system = refl; lengths = refl; circuits = refl; clock = refl; timers = passes-settled c.lengths c.circuits c.clock f c.timers own }

-- ---- the calls on a circuit

-- a circuit that is known stands in its place
pub known-stands : (c : Common) (n : ℕ) (s : Circuit) → circuit_of c n ≡ Some s → Stands c.circuits (n - 1) s
unfolding circuit_of
known-stands c zero s e = absurd (let z : ◌≡◌ {A = ℕ} 0 1 = cc in omega arith)
known-stands c (suc i) s e =
    by-test (ltb i (length c.circuits))
    (λ a. let q : suc i - 1 ≡ i = omega arith in rw q (ltb-true i (length c.circuits) a, (let w = rw a at e in cc)))
    (λ a. absurd (let w = rw a at e in let z : ◌≡◌ {A = ℕ} 0 1 = cc in omega arith))

-- the level of a frame that refusal 7 lets pass may be asked for
pub level-passes : (kind : CircuitKind) (l : Levels) (link : Link) → kind_of link ≡ kind → level_off l link ≡ false
    → asks_level kind l (level_in link) ≡ true
level-passes Lan l (LanLink level priority listed) e off = not-false (has_level l level) off
level-passes Lan l (P2pLink t) e off = cc
level-passes P2p l link e off = refl

source-passes : (s : Circuit) (own : ℕ) (h : Hello) → kind_of h.link ≡ s.kind → wrong_source s.levels own h ≡ false
    → asks_level s.kind s.levels (level_in h.link) ≡ true
unfolding wrong_source
source-passes s own h e pass = level-passes s.kind s.levels h.link e (neither (level_off s.levels h.link) _ pass).0

module _ (n : ℕ) (s : Circuit) (c : Common) (r : Room) (known : circuit_of c n ≡ Some s) where
  reacted-keeps : (h : Hello) → asks_level s.kind s.levels (level_in h.link) ≡ true → (k : Key) (b : List ℕ) (a : Reaction)
      → Keeps c (reacted n s h k b a c r).common
  unfolding reacted accepted refuse
  reacted-keeps h on k b (Err x) = keeps_same c
  reacted-keeps h on k b (Ok (after, reply, line)) =
      keeps-settled c (heard_in c.lengths c.clock (t1_of n s h) _ (said_of c s h))
      (own-heard c.lengths c.circuits c.clock c.timers (n - 1) s (level_in h.link) _ (said_of c s h) (known-stands c n s known) on)

  read_keeps : (mac : ℕ) (frame b : List ℕ) (x : Result Hello Refusal) → hello_read s.kind s.mac frame ≡ x → Keeps c (read_in n s mac b x c r).common
  unfolding read_in checked decided_in refuse
  read_keeps mac frame b (Err x) q = keeps_same c
  read_keeps mac frame b (Ok h) q =
      let kind = read-kind s.kind s.mac frame h q in
      by-test (wrong_source s.levels c.system h) (λ e. rw e (keeps_same c))
      (λ e. rw e
      (reacted-keeps h (source-passes s c.system h kind e) (key_in s.kind mac h) b (decided (here_of c s) (key_in s.kind mac h) h r.slots)))

  receive-keeps : (mac : ℕ) (frame b : List ℕ) → Keeps c (receive n s mac frame b c r).common
  unfolding receive refuse
  receive-keeps mac frame b =
      by-test (ltb (length b) 11) (λ e. rw e (keeps_same c)) (λ e. rw e (read_keeps mac frame b (hello_read s.kind s.mac frame) refl))

  csnp-keeps : (level : ℕ) → Keeps c (csnp_complete n s level c r).common
  unfolding csnp_complete refuse
  csnp-keeps level =
      by-test (has_level s.levels level)
      (λ e. by-test (is_running c.timers.mode)
      (λ m. rw (e, m) (keeps_same c))
      (λ m. rw (e, m)
      (keeps-settled c (csnp_of n s level)
      (own-csnp c.lengths c.circuits c.clock c.timers (t1_place s.kind (n - 1) level) (only_level level)))))
      (λ e. rw e (keeps_same c))

  look-keeps : (k : Key) → Keeps c (look_up s k c r).common
  unfolding look_up refuse
  look-keeps k =
      by-test (asks_level s.kind s.levels k.level) (λ e. rw e (keeps_same c)) (λ e. rw e (keeps_same c))

  flags_keeps : (level : ℕ) → Keeps c (next_hello n s level c r).common
  unfolding next_hello refuse
  flags_keeps level = by-test (has_level s.levels level) (λ e. rw e (keeps_same c)) (λ e. rw e (keeps_same c))

  pub act-keeps : (l : Local) → Keeps c (act n s l c r).common
  unfolding act link_metric_of
  act-keeps (Receive mac frame b) = receive-keeps mac frame b
  act-keeps Release = keeps_same c
  act-keeps Clear = keeps_same c
  act-keeps (CsnpComplete level) = csnp-keeps level
  act-keeps (LookUp k) = look-keeps k
  act-keeps LinkMetric = keeps_same c
  act-keeps (NextHello level) = flags_keeps level

-- ---- the calls that name none

abbrev pub JudgedOk : Common → Judged → Type 0
JudgedOk c (RefusedCall x) = Unit {0}
JudgedOk c (Sweep clock d hellos o) = (c.clock ≤ clock) × Keeps (with_clock clock c) d
JudgedOk c (Tell d a) = Keeps c d

module _ (c : Common) where
  tick-ok : (clock : ℕ) → JudgedOk c (tick_of clock c)
  unfolding tick_of
  tick-ok clock =
      by-test (none_of c.circuits) (λ e. rw e (keeps_same c))
      (λ e. by-test (ltb clock c.clock) (λ b. rw (e, b) tt)
      (λ b. rw (e, b) (ltb-false _ _ b, keeps-settled (with_clock clock c) (to_t3 c.lengths clock) (own-tick c.lengths c.circuits clock c.timers))))

  database-ok : (level : ℕ) → JudgedOk c (database_of level c)
  unfolding database_of
  database-ok level =
      by-test (has_level (enabled_levels c.circuits) level)
      (λ e. by-test (is_running c.timers.mode)
      (λ m. rw (e, m) tt)
      (λ m. rw (e, m)
      (keeps-settled c (notice_t2s (only_level level)) (own-database c.lengths c.circuits c.clock c.timers (only_level level)))))
      (λ e. rw e tt)

  pub judge-ok : (w : Global) → JudgedOk c (judge c w)
  unfolding judge
  judge-ok (Tick clock) = tick-ok clock
  judge-ok (DatabaseComplete level) = database-ok level
  judge-ok Waiting = keeps_same c

-- ---- every call

pub record Moves (c d : Common) : Type 0 where
  pub system : d.system ≡ c.system
  pub lengths : d.lengths ≡ c.lengths
  pub circuits : d.circuits ≡ c.circuits
  pub quiet : Quiet c.timers → Quiet d.timers
  pub restarts : (s : Settings) → Restarts s c.timers → Restarts s d.timers
  pub no-t3 : NoT3 c.timers → NoT3 d.timers
  pub kept : (s : Settings) → Set c.lengths c.circuits s → SetupTimers s c.clock c.timers → SetupTimers s d.clock d.timers
  pub onward : Onward c d

-- the clock moved on, or stood, and the rest kept
moved : (c d : Common) (clock : ℕ) → c.clock ≤ clock → Keeps (with_clock clock c) d → Moves c d
moved c d clock le k =
    record {
      system = k.system;
      lengths = k.lengths;
      circuits = k.circuits;
      quiet = k.timers.quiet;
      restarts = k.timers.restarts;
      no-t3 = k.timers.no-t3;
      kept = λ s e h. rw k.clock (k.timers.kept s e (later-kept s c.clock c.timers h clock le));
      onward = record { clock = omega (arith, k.clock); mode = k.timers.mode };
    }

keeps-moves : (c d : Common) → Keeps c d → Moves c d
keeps-moves c d k = moved c d c.clock (omega arith) k

module _ (g : Gateway) where
  on-moves : (n : ℕ) (l : Local) (x : Option Circuit) → circuit_of g.common n ≡ x → Moves g.common (on g n l x).next.common
  unfolding on lift
  on-moves n l None e = keeps-moves g.common g.common (keeps_same g.common)
  on-moves n l (Some s) e = keeps-moves g.common _ (act-keeps n s g.common _ e l)

  carry-moves : (j : Judged) → JudgedOk g.common j → Moves g.common (carry g j).next.common
  unfolding carry
  carry-moves (RefusedCall x) k = keeps-moves g.common g.common (keeps_same g.common)
  carry-moves (Sweep clock d hellos o) (le, k) = moved g.common d clock le k
  carry-moves (Tell d a) k = keeps-moves g.common d k

module _ (g : Gateway) where
  stays : Moves g.common g.common
  stays = keeps-moves g.common g.common (keeps_same g.common)

  chunk-moves : (n : ℕ) (j : Joined) → Moves g.common (chunked g n j).next.common
  unfolding chunked
  chunk-moves n (RefusedChunk x) = stays
  chunk-moves n (As u) = stays

  end-moves : (n : ℕ) (b : List ℕ) (u : Unfinished) → Moves g.common (ended g n b u).next.common
  unfolding ended at
  end-moves n b NoFrame = stays
  end-moves n b (Frame mac octets) = on-moves (with_unfinished g n NoFrame) n (Receive mac octets b) (circuit_of g.common n) refl

  hand-moves : (n : ℕ) (p : Piece) (x : Option Circuit) → Moves g.common (hand_on g n p x).next.common
  unfolding hand_on hand
  hand-moves n p None = stays
  hand-moves n (Begin mac) (Some s) = stays
  hand-moves n (Chunk octets) (Some s) = chunk-moves n (join (unfinished_on g n) octets)
  hand-moves n (End b) (Some s) = end-moves n b (unfinished_on g n)

  pub step-moves : (c : Call) → Moves g.common (step g c).next.common
  unfolding step at
  step-moves (At n l) = on-moves g n l (circuit_of g.common n) refl
  step-moves (Over w) = carry-moves g (judge g.common w) (judge-ok g.common w)
  step-moves (Hand n p) = hand-moves n p (circuit_of g.common n)

-- ---- what setup gives, and every call keeps

pub record CommonOk (s : Settings) (c : Common) : Type 0 where
  pub settings : SetupSettings s c
  pub quiet : Quiet c.timers
  pub restarts : Restarts s c.timers
  pub no-t3 : NoT3 c.timers
  pub ok : settings_ok s ≡ true
  pub timers : SetupTimers s c.clock c.timers

pub common-new : (s : Settings) → settings_ok s ≡ true → CommonOk s (setup_common s)
unfolding setup_common
common-new s ok =
    record {
      settings = record { system = refl; lengths = refl; circuits = refl };
      quiet = started-quiet (start_of s);
      restarts = started-restarts s (circuits-ok s ok);
      no-t3 = started-no-t3 (start_of s);
      ok = ok;
      timers = started-kept s (tries-ok s ok);
    }

pub common-moved : (s : Settings) (c d : Common) → Moves c d → CommonOk s c → CommonOk s d
common-moved s c d m h =
    record {
      settings =
          record {
            system = m.system ∙ h.settings.system;
            lengths = m.lengths ∙ h.settings.lengths;
            circuits = m.circuits ∙ h.settings.circuits;
          };
      quiet = m.quiet h.quiet;
      restarts = m.restarts s h.restarts;
      no-t3 = m.no-t3 h.no-t3;
      ok = h.ok;
      timers = m.kept s (record { lengths = h.settings.lengths; circuits = h.settings.circuits; ok = h.ok }) h.timers;
    }
