-- Rows of a whole start (document 02, W-201; RFC 8706, 3.3.2 and 3.4.1.2), as runs of `step` from what setup returned: P2P and a LAN, first UP by
-- Initializing, by Up and by our MAC listed, two circuits of which one never comes UP, acknowledgements before the first UP frame and on it, the last
-- T2 by its expiry and by cancelling. On the right of ≡ stand the numbers of the documents.
use Rattle.std.specs.Prelude.{ℕ, ◌+◌, ◌≡◌, true, false, List, [], ◌∷◌, map, length, replicate}
use Rattle.basics.specs.declared.kind.CircuitKind.TheVariants.{Lan}
use Rattle.basics.specs.declared.levels.Levels.{Levels}
use Rattle.settings.specs.declared.circuit.Circuit.{Circuit}
use Rattle.settings.specs.declared.mode.Mode.{Mode}
use Rattle.settings.specs.declared.mode.Mode.TheVariants.{Restarting, Starting}
use Rattle.settings.specs.declared.setup.Settings.{Settings}
use Rattle.model.specs.Answers.{Answer, Refused, Received, Ticked, Told, Done, Noticed, Looked, Metric, HelloFlags, Waits, TimersAnswer, number_of}
use Rattle.model.specs.Gateway.{Gateway, Setup, Refused as RefusedSetup, Started, setup}
use Rattle.model.specs.Step.{Call, At, Over, Receive, CsnpComplete, NextHello, Tick, DatabaseComplete, Waiting, step}
use Rattle.model.specs.Trace.{Turn, trace}
use Rattle.model.specs.SampleFrames.{circuit, frame_of, hello, acknowledging, receiving, lent_octets, From}

-- ---- settings: from clock 0, T1 10, T2 60

abbrev pub settings_of : Mode → ℕ → ℕ → List Circuit → Settings
settings_of mode tries count circuits =
    record {
      system = 0x192168001001;
      lengths = record { t1 = 10; t2 = 60; tries = tries };
      clock = 0;
      mode = mode;
      count = count;
      circuits = circuits;
    }

abbrev pub settings_with : Mode → ℕ → ℕ → Circuit → Settings
settings_with mode tries count own = settings_of mode tries count (replicate 8 own)

-- with this N and so many P2P circuits, with both levels
abbrev pub starting : ℕ → ℕ → Settings
starting tries count = settings_with Starting tries count (circuit 10)

-- a LAN circuit with these levels; with level 1
abbrev pub lan_with : Levels → Circuit
lan_with levels =
    record {
      kind = Lan;
      levels = levels;
      mac = 0x020000000001;
      priority = 64;
      hold = 30;
      metric = 10;
      id = 0;
    }

abbrev pub lan : Circuit
lan = lan_with (record { one = true; two = false })

-- ---- frames

-- P2P: flags 0, with this three-way state; with RA for us; without the Restart TLV
abbrev pub plain : ℕ → Call
plain state = receiving (hello state (0 ∷ 0 ∷ 0 ∷ []))

abbrev pub with_ra : ℕ → Call
with_ra state = receiving (hello state (acknowledging 40))

-- .. Up, naming our System ID and this extended circuit ID; on a circuit, and on circuit 1
abbrev pub bare_on : ℕ → ℕ → Call
bare_on n id =
    At n
    (Receive 0x020000000002 (frame_of (240 ∷ 15 ∷ 0 ∷ 0 ∷ 0 ∷ 0 ∷ 7 ∷ 0x19 ∷ 0x21 ∷ 0x68 ∷ 0x00 ∷ 0x10 ∷ 0x01 ∷ 0 ∷ 0 ∷ 0 ∷ id ∷ [])) lent_octets)

abbrev pub bare : ℕ → Call
bare id = bare_on 1 id

-- a LAN hello on a circuit, of this level, from 19216800100x with source MAC 02000000000x; on circuit 1, of level 1
abbrev pub lan_hello : ℕ → ℕ → ℕ → List ℕ → Call
lan_hello n level x tlvs =
    At n
    (Receive (0x020000000000 + x)
    (0x83 ∷ 27 ∷ 1 ∷ 0 ∷ (14 + level) ∷ 1 ∷ 0 ∷ 0 ∷ level ∷ 0x19 ∷ 0x21 ∷ 0x68 ∷ 0x00 ∷ 0x10 ∷ x ∷ 0 ∷ 27 ∷ 0 ∷ (27 + length tlvs) ∷ 64 ∷ 0x19 ∷ 0x21 ∷ 0x68 ∷ 0x00
    ∷ 0x10 ∷ x ∷ 1 ∷ tlvs)
    lent_octets)

abbrev pub on_lan : ℕ → List ℕ → Call
on_lan x tlvs = lan_hello 1 1 x tlvs

-- our MAC is listed; RA, with this Remaining Time, for this System ID's last octet
abbrev pub listing : List ℕ → List ℕ
listing tlvs = 6 ∷ 6 ∷ 0x02 ∷ 0 ∷ 0 ∷ 0 ∷ 0 ∷ 0x01 ∷ tlvs

abbrev pub answering : ℕ → ℕ → List ℕ
answering time last = 211 ∷ 9 ∷ 2 ∷ 0 ∷ time ∷ 0x19 ∷ 0x21 ∷ 0x68 ∷ 0x00 ∷ 0x10 ∷ last ∷ []

-- ---- what is seen of a call

-- The flags of the hello that it orders (SA 4, RR and SA 5), whether it stopped T1 for want of a Restart TLV (1), whether the start goes on (1) or
-- ended (2), the levels of the SPF, overload to be set (1), cleared (2) or both (3). After it, the flags of the next hello on circuit 1, and how many
-- T1s wait.
pub record Seen : Type 0 where
  pub hello : ℕ
  pub freed : ℕ
  pub timers : TimersAnswer
  pub next : ℕ
  pub waits : ℕ

abbrev pub no_timers : TimersAnswer
no_timers = record { restart = 0; spf = 0; overload = 0 }

abbrev pub timers_in : Answer → TimersAnswer
timers_in (Received f) = f.timers
timers_in (Ticked lost hellos t) = t
timers_in (Told (Noticed t)) = t
timers_in (Told Done) = no_timers
timers_in (Told (Looked r)) = no_timers
timers_in (Told (Metric n)) = no_timers
timers_in (Told (HelloFlags n)) = no_timers
timers_in (Told (Waits n some m)) = no_timers
timers_in (Refused n) = no_timers

abbrev pub hello_in : Answer → ℕ
hello_in (Received f) = f.hello
hello_in (Ticked lost hellos t) = hellos.flags
hello_in (Told f) = 0
hello_in (Refused n) = 0

abbrev pub freed_in : Answer → ℕ
freed_in (Received f) = f.freed
freed_in (Ticked lost hellos t) = 0
freed_in (Told f) = 0
freed_in (Refused n) = 0

-- the number that an asking call tells
abbrev pub told_in : Answer → ℕ
told_in (Told (HelloFlags n)) = n
told_in (Told (Waits n some m)) = n
told_in (Told Done) = 0
told_in (Told (Noticed t)) = 0
told_in (Told (Looked r)) = 0
told_in (Told (Metric n)) = 0
told_in (Received f) = 0
told_in (Ticked lost hellos t) = 0
told_in (Refused n) = 0

-- the flags of the next hello on a circuit at a level, and at level 1
abbrev pub flags_at : ℕ → ℕ → Gateway → ℕ
flags_at n level g = told_in (step g (At n (NextHello level))).answer

abbrev pub flags_on : ℕ → Gateway → ℕ
flags_on n g = flags_at n 1 g

abbrev pub seen : Turn → Seen
seen t =
    let a = t.outcome.answer in
    let g = t.outcome.next in
    record { hello = hello_in a; freed = freed_in a; timers = timers_in a; next = flags_on 1 g; waits = told_in (step g (Over Waiting)).answer }

abbrev pub sees : ℕ → ℕ → ℕ → ℕ → ℕ → ℕ → ℕ → Seen
sees hello freed restart spf overload next waits =
    record { hello = hello; freed = freed; timers = record { restart = restart; spf = spf; overload = overload }; next = next; waits = waits }

-- nothing is ordered, and the start goes on: every hello carries SA
abbrev pub steady : ℕ → Seen
steady waits = sees 0 0 1 0 0 4 waits

-- T1 begins: a hello with SA, and overload
abbrev pub begun : Seen
begun = sees 4 0 1 0 1 4 1

abbrev pub Plays : Settings → List Call → List Seen → Type 0
Plays s cs rows = From (setup s) (λ g. map seen (trace g cs) ≡ rows)

-- ---- setup

-- "a hello with RR on every circuit" of two; in the mode Starting none, and SA at once
abbrev pub ordered_by : Setup → List ℕ
ordered_by (RefusedSetup x) = []
ordered_by (Started g hellos) = hellos.flags ∷ flags_on 1 g ∷ flags_on 2 g ∷ []

abbrev pub Setups : Type 0
Setups = (ordered_by (setup (settings_with Restarting 3 2 (circuit 10))) ≡ 1 ∷ 1 ∷ 1 ∷ []) × (ordered_by (setup (starting 3 2)) ≡ 0 ∷ 4 ∷ 4 ∷ [])

-- ---- P2P

-- first UP by Initializing; N = 3: hellos with RR and SA at the first and the second expiry, none at the third; T2 ends at its deadline
abbrev pub ByExpiry : Type 0
ByExpiry =
    Plays (starting 3 1)
    (plain 2 ∷ Over (Tick 2) ∷ plain 1 ∷ Over (Tick 11) ∷ Over (Tick 12) ∷ Over (Tick 22) ∷ Over (Tick 32) ∷ Over (Tick 59) ∷ Over (Tick 60) ∷ [])
    (steady 0 ∷ steady 0 ∷ begun ∷ steady 1 ∷ sees 5 0 1 0 0 5 1 ∷ sees 5 0 1 0 0 5 1 ∷ steady 0 ∷ steady 0 ∷ sees 0 0 2 3 2 0 0 ∷ [])

-- N = 1: no hello carries RR
abbrev pub OneTry : Type 0
OneTry = Plays (starting 1 1) (plain 1 ∷ Over (Tick 10) ∷ []) (begun ∷ steady 0 ∷ [])

-- first UP by Up, from INIT. RA before that frame does not count: with both CSNP sets T1 runs on; RA after it stops T1; the database notices end the
-- start.
abbrev pub ByCancelling : Type 0
ByCancelling =
    Plays (starting 3 1)
    (with_ra 2 ∷ plain 0 ∷ At 1 (CsnpComplete 1) ∷ At 1 (CsnpComplete 2) ∷ with_ra 0 ∷ Over (DatabaseComplete 1) ∷ Over (DatabaseComplete 2) ∷ [])
    (steady 0 ∷ begun ∷ steady 1 ∷ steady 1 ∷ steady 0 ∷ sees 0 0 1 1 0 4 0 ∷ sees 0 0 2 2 2 0 0 ∷ [])

-- CSNP sets before the first UP frame count, and RA on it: T1 begins and stops. It does not begin again when the record falls and comes UP, which
-- orders overload again.
abbrev pub AtOnce : Type 0
AtOnce =
    Plays (starting 3 1)
    (At 1 (CsnpComplete 1) ∷ At 1 (CsnpComplete 2) ∷ with_ra 1 ∷ plain 2 ∷ plain 1 ∷ [])
    (steady 0 ∷ steady 0 ∷ sees 4 0 1 0 1 4 0 ∷ steady 0 ∷ sees 0 0 1 0 1 4 0 ∷ [])

-- a first UP frame without the TLV, Up and with our own circuit ID: T1 begins and stops, and nothing is to reinitialise
abbrev pub Bare : Type 0
Bare = Plays (starting 3 1) (plain 2 ∷ bare 1 ∷ []) (steady 0 ∷ sees 4 1 1 0 1 4 0 ∷ [])

-- a running T1 with an expiry that the record's fall does not stop; an acknowledgement without CSNP sets leaves it
abbrev pub Falls : Type 0
Falls = Plays (starting 3 1) (plain 1 ∷ Over (Tick 10) ∷ plain 2 ∷ plain 1 ∷ with_ra 0 ∷ []) (begun ∷ sees 5 0 1 0 0 5 1 ∷ sees 0 0 1 0 0 5 1 ∷ sees 0 0 1 0 1 5 1 ∷ sees 0 0 1 0 0 5 1 ∷ [])

-- two circuits, of which the second never comes UP: its T1 does not run, and the notices end the start
abbrev pub OneOfTwo : Type 0
OneOfTwo =
    Plays (starting 3 2)
    (plain 1 ∷ Over (DatabaseComplete 1) ∷ Over (DatabaseComplete 2) ∷ At 1 (CsnpComplete 1) ∷ with_ra 0 ∷ At 1 (CsnpComplete 2) ∷ [])
    (begun ∷ steady 1 ∷ steady 1 ∷ steady 1 ∷ steady 1 ∷ sees 0 0 2 3 2 0 0 ∷ [])

-- no record came UP: the notices cancel every T2, and overload is ordered clear all the same
abbrev pub Alone : Type 0
Alone = Plays (starting 3 1) (Over (DatabaseComplete 2) ∷ Over (DatabaseComplete 1) ∷ []) (sees 0 0 1 2 0 4 0 ∷ sees 0 0 2 1 2 0 0 ∷ [])

-- T3 isn't used: RA 5 that shows us Up, and a tick long past it
abbrev pub WithoutT3 : Type 0
WithoutT3 = Plays (starting 1 1) (plain 1 ∷ receiving (hello 0 (acknowledging 5)) ∷ Over (Tick 50) ∷ []) (begun ∷ steady 1 ∷ steady 0 ∷ [])

-- ---- a LAN

-- RA that names another does not stop T1, RA for us does; the second neighbour's hello is its first UP frame, and ends the start: overload both
abbrev pub OnLan : Type 0
OnLan =
    Plays (settings_with Starting 3 1 lan)
    (on_lan 2 [] ∷ on_lan 2 (listing []) ∷ At 1 (CsnpComplete 1) ∷ on_lan 2 (listing (answering 40 9)) ∷ Over (DatabaseComplete 1) ∷ on_lan 3 (listing (answering 40 1)) ∷ [])
    (steady 0 ∷ begun ∷ steady 1 ∷ steady 1 ∷ steady 1 ∷ sees 0 0 2 1 3 0 0 ∷ [])

-- ---- the step and the refusals are those of Running

-- the number of each call's refusal: 8 for an extended circuit ID that is not ours; notices are taken before the start's end, and refused 11 after it
abbrev pub Numbers : Type 0
Numbers =
    From (setup (starting 3 1))
    (λ g.
    map (λ t. number_of t.outcome.answer)
    (trace g (bare 2 ∷ plain 0 ∷ At 1 (CsnpComplete 1) ∷ Over (Tick 60) ∷ At 1 (CsnpComplete 1) ∷ Over (DatabaseComplete 1) ∷ []))
    ≡ 8 ∷ 0 ∷ 0 ∷ 0 ∷ 11 ∷ 11 ∷ [])

-- "Up gives no record": none stands before and after such a frame
abbrev pub changed : Answer → List ℕ
changed (Received f) = f.change.before ∷ f.change.after ∷ []
changed (Ticked lost hellos t) = []
changed (Told f) = []
changed (Refused n) = []

abbrev pub UpAlone : Type 0
UpAlone = From (setup (starting 3 1)) (λ g. changed (step g (plain 0)).answer ≡ 0 ∷ 0 ∷ [])

abbrev pub SampleStarts : Type 0
SampleStarts =
    Setups × ByExpiry × OneTry × ByCancelling × AtOnce × Bare × Falls × OneOfTwo × Alone × WithoutT3 × OnLan × Numbers × UpAlone
