-- Rows of a restart and a start on LANs of both levels (document 02, W-202; RFC 8706, 3.3.3), as runs of `step` from what setup returned. T1 10, T2 60
-- and N 3, from clock 0. On the right of ≡ stand the numbers of the documents.
use Rattle.std.specs.Prelude.{ℕ, suc, ◌≡◌, Bool, true, false, cond, List, [], ◌∷◌, map, replicate}
use Rattle.basics.specs.declared.levels.Levels.{Levels}
use Rattle.settings.specs.declared.mode.Mode.{Mode}
use Rattle.settings.specs.declared.mode.Mode.TheVariants.{Restarting, Starting}
use Rattle.settings.specs.declared.setup.Settings.{Settings}
use Rattle.timer_parts.specs.declared.t3.T3.TheVariants.{Runs}
use Rattle.model.specs.Answers.{Answer, Refused, Received, Ticked, Told, Done, Noticed, Looked, Metric, HelloFlags, Waits, TimersAnswer, number_of}
use Rattle.model.specs.Gateway.{Gateway, Setup, Refused as RefusedSetup, Started, setup}
use Rattle.model.specs.Step.{Call, At, Over, CsnpComplete, NextHello, Tick, DatabaseComplete, Waiting, step}
use Rattle.model.specs.Trace.{Turn, trace, after}
use Rattle.model.specs.SampleFrames.{both, p2p_with, circuit, From}
use Rattle.model.specs.SampleStarts.{settings_of, lan_with, bare_on, lan_hello, listing, answering, timers_in, hello_in, freed_in, flags_at}

-- ---- settings

abbrev pub second : Levels
second = record { one = false; two = true }

-- one LAN with both levels
abbrev pub one_lan : Mode → Settings
one_lan mode = settings_of mode 3 1 (replicate 8 (lan_with both))

-- a LAN with both levels, P2P with both, a LAN with level 2
abbrev pub three : Mode → Settings
three mode = settings_of mode 3 3 (lan_with both ∷ circuit 10 ∷ replicate 6 (lan_with second))

-- ---- calls

-- a hello of this level on a LAN circuit, with our MAC listed; the same with RA for us
abbrev pub lists : ℕ → ℕ → Call
lists n level = lan_hello n level 2 (listing [])

abbrev pub acks : ℕ → ℕ → ℕ → Call
acks n level time = lan_hello n level 2 (listing (answering time 1))

-- ---- what is seen of a call

-- the numbers of the places that are true, from this one on: place 0 is circuit 1's first, and 1 its second
unfoldable pub numbers_from : ℕ → List Bool → List ℕ
numbers_from n [] = []
numbers_from n (b ∷ bs) = cond b (n ∷ numbers_from (suc n) bs) (numbers_from (suc n) bs)

abbrev pub places_in : Answer → List ℕ
places_in (Ticked lost hellos t) = numbers_from 0 hellos.t1s
places_in (Received f) = []
places_in (Told f) = []
places_in (Refused n) = []

-- how many T1s wait, and the lowest circuit
abbrev pub waits_in : Answer → ℕ × ℕ
waits_in (Told (Waits n some m)) = (n, m)
waits_in (Told (HelloFlags n)) = (0, 0)
waits_in (Told Done) = (0, 0)
waits_in (Told (Noticed t)) = (0, 0)
waits_in (Told (Looked r)) = (0, 0)
waits_in (Told (Metric n)) = (0, 0)
waits_in (Received f) = (0, 0)
waits_in (Ticked lost hellos t) = (0, 0)
waits_in (Refused n) = (0, 0)

-- The places whose hello a tick orders, and the flags of the hello that the call orders; whether it stopped T1 for want of a Restart TLV; whether the
-- mode goes on (1) or ended (2), the levels of the SPF, overload. After it: the flags of the next hello on circuit 1 at level 1 and at level 2, how
-- many T1s wait, and the lowest circuit.
pub record Seen : Type 0 where
  pub places : List ℕ
  pub hello : ℕ
  pub freed : ℕ
  pub timers : TimersAnswer
  pub flags : ℕ × ℕ
  pub waits : ℕ × ℕ

abbrev pub waiting : Gateway → ℕ × ℕ
waiting g = waits_in (step g (Over Waiting)).answer

abbrev pub flags_of : Gateway → ℕ × ℕ
flags_of g = (flags_at 1 1 g, flags_at 1 2 g)

abbrev pub seen : Turn → Seen
seen t =
    let a = t.outcome.answer in
    let g = t.outcome.next in
    record { places = places_in a; hello = hello_in a; freed = freed_in a; timers = timers_in a; flags = flags_of g; waits = waiting g }

abbrev pub sees : List ℕ → ℕ → ℕ → ℕ → ℕ → ℕ × ℕ → ℕ × ℕ → Seen
sees places hello restart spf overload flags waits =
    record { places = places; hello = hello; freed = 0; timers = record { restart = restart; spf = spf; overload = overload }; flags = flags; waits = waits }

-- nothing is ordered, and the mode goes on
abbrev pub steady : ℕ × ℕ → ℕ × ℕ → Seen
steady flags waits = sees [] 0 1 0 0 flags waits

-- .. but for the SPF of these levels
abbrev pub spf : ℕ → ℕ × ℕ → ℕ × ℕ → Seen
spf levels flags waits = sees [] 0 1 levels 0 flags waits

-- a tick orders the hellos of these places
abbrev pub repeats : List ℕ → ℕ → ℕ × ℕ → ℕ × ℕ → Seen
repeats places hello flags waits = sees places hello 1 0 0 flags waits

abbrev pub Plays : Settings → List Call → List Seen → Type 0
Plays s cs rows = From (setup s) (λ g. map seen (trace g cs) ≡ rows)

-- ---- setup: a hello with RR for each T1, and P2P's one

abbrev pub begun_by : Setup → List ℕ × ℕ × (ℕ × ℕ)
begun_by (RefusedSetup x) = ([], 0, (0, 0))
begun_by (Started g hellos) = (numbers_from 0 hellos.t1s, hellos.flags, waiting g)

abbrev pub Setups : Type 0
Setups =
    (begun_by (setup (one_lan Restarting)) ≡ (0 ∷ 1 ∷ [], 1, (2, 1)))
    × (begun_by (setup (three Restarting)) ≡ (0 ∷ 1 ∷ 2 ∷ 5 ∷ [], 1, (4, 1)))
    × (begun_by (setup (three Starting)) ≡ ([], 0, (0, 0)))

-- ---- a LAN with both levels

-- and a level 1 neighbour only: level 1 ends by its own work; level 2's T1 by its third expiry, and its T2 at its deadline
abbrev pub OneNeighbour : Type 0
OneNeighbour =
    Plays (one_lan Restarting)
    (acks 1 1 255 ∷ At 1 (CsnpComplete 1) ∷ Over (DatabaseComplete 1) ∷ Over (Tick 10) ∷ Over (Tick 20) ∷ Over (Tick 30) ∷ Over (Tick 60) ∷ [])
    (steady (1, 1) (2, 1)
    ∷ steady (0, 1) (1, 1)
    ∷ spf 1 (0, 1) (1, 1)
    ∷ repeats (1 ∷ []) 1 (0, 1) (1, 1)
    ∷ repeats (1 ∷ []) 1 (0, 1) (1, 1)
    ∷ steady (0, 0) (0, 0)
    ∷ sees [] 0 2 2 0 (0, 0) (0, 0)
    ∷ [])

-- "a T1 stops by its own level's acknowledgement and CSNP set": level 1's RA and level 2's set stop neither; level 2's RA then stops its own, and its
-- T2, noticed before, is cancelled in that call though level 1's T1 runs
abbrev pub ByLevel : Type 0
ByLevel =
    Plays (one_lan Restarting)
    (acks 1 1 255 ∷ At 1 (CsnpComplete 2) ∷ Over (DatabaseComplete 2) ∷ acks 1 2 255 ∷ Over (DatabaseComplete 1) ∷ At 1 (CsnpComplete 1) ∷ [])
    (steady (1, 1) (2, 1)
    ∷ steady (1, 1) (2, 1)
    ∷ steady (1, 1) (2, 1)
    ∷ spf 2 (1, 0) (1, 1)
    ∷ steady (1, 0) (1, 1)
    ∷ sees [] 0 2 1 0 (0, 0) (0, 0)
    ∷ [])

-- T3 is lowered by either level's acknowledgement, and its expiry stops the T1s of both
abbrev pub T3OfBoth : Type 0
T3OfBoth =
    From (setup (one_lan Restarting)) (λ g. (after g (acks 1 1 50 ∷ acks 1 2 40 ∷ [])).common.timers.t3 ≡ Runs 40)
    × Plays (one_lan Restarting) (acks 1 2 5 ∷ Over (Tick 5) ∷ []) (steady (1, 1) (2, 1) ∷ sees [] 0 1 0 1 (0, 0) (0, 0) ∷ [])

-- ---- two LANs and P2P

-- a level's T2 waits for that level's LAN T1s and for P2P's, which a frame without the TLV stops: reinitialise (2); the lowest circuit goes from 1 to 3
abbrev pub TwoLans : Type 0
TwoLans =
    Plays (three Restarting)
    (acks 1 1 255
    ∷ At 1 (CsnpComplete 1)
    ∷ Over (DatabaseComplete 1)
    ∷ bare_on 2 1
    ∷ acks 1 2 255
    ∷ At 1 (CsnpComplete 2)
    ∷ Over (DatabaseComplete 2)
    ∷ Over (Tick 10)
    ∷ acks 3 2 255
    ∷ At 3 (CsnpComplete 2)
    ∷ [])
    (steady (1, 1) (4, 1)
    ∷ steady (0, 1) (3, 1)
    ∷ steady (0, 1) (3, 1)
    ∷ record { places = []; hello = 0; freed = 2; timers = record { restart = 1; spf = 1; overload = 0 }; flags = (0, 1); waits = (2, 1) }
    ∷ steady (0, 1) (2, 1)
    ∷ steady (0, 0) (1, 3)
    ∷ steady (0, 0) (1, 3)
    ∷ repeats (5 ∷ []) 1 (0, 0) (1, 3)
    ∷ steady (0, 0) (1, 3)
    ∷ sees [] 0 2 2 0 (0, 0) (0, 0)
    ∷ [])

-- ---- a start

-- the levels come UP at different times, each with a T1 of its own; every hello carries SA until all T2 are done
abbrev pub LevelsStart : Type 0
LevelsStart =
    Plays (one_lan Starting)
    (lists 1 1
    ∷ Over (Tick 5)
    ∷ lists 1 2
    ∷ Over (Tick 10)
    ∷ Over (Tick 15)
    ∷ acks 1 1 255
    ∷ At 1 (CsnpComplete 1)
    ∷ Over (DatabaseComplete 1)
    ∷ At 1 (CsnpComplete 2)
    ∷ acks 1 2 255
    ∷ Over (DatabaseComplete 2)
    ∷ [])
    (sees [] 4 1 0 1 (4, 4) (1, 1)
    ∷ steady (4, 4) (1, 1)
    ∷ sees [] 4 1 0 1 (4, 4) (2, 1)
    ∷ repeats (0 ∷ []) 5 (5, 4) (2, 1)
    ∷ repeats (1 ∷ []) 5 (5, 5) (2, 1)
    ∷ steady (5, 5) (2, 1)
    ∷ steady (4, 5) (1, 1)
    ∷ spf 1 (4, 5) (1, 1)
    ∷ steady (4, 5) (1, 1)
    ∷ steady (4, 4) (0, 0)
    ∷ sees [] 0 2 2 2 (0, 0) (0, 0)
    ∷ [])

-- ---- the flags call

-- the number of each call: 1 at a level that is not enabled there, on a LAN and on P2P, and at 0 and 3, which are no levels
abbrev pub ask_flags : Settings → List ℕ → List ℕ → Type 0
ask_flags s levels numbers = From (setup s) (λ g. map (λ k. number_of (step g (At 1 (NextHello k))).answer) levels ≡ numbers)

abbrev pub FlagsRefused : Type 0
FlagsRefused =
    ask_flags (settings_of Restarting 3 1 (replicate 8 (lan_with second))) (0 ∷ 1 ∷ 2 ∷ 3 ∷ []) (1 ∷ 1 ∷ 0 ∷ 1 ∷ [])
    × ask_flags (settings_of Restarting 3 1 (replicate 8 (p2p_with second 10))) (0 ∷ 1 ∷ 2 ∷ 3 ∷ []) (1 ∷ 1 ∷ 0 ∷ 1 ∷ [])

-- P2P gives the one answer at each of its levels
abbrev pub FlagsOnP2p : Type 0
FlagsOnP2p = From (setup (settings_of Restarting 3 1 (replicate 8 (circuit 10)))) (λ g. flags_of g ≡ (1, 1))

abbrev pub SampleLevels : Type 0
SampleLevels = Setups × OneNeighbour × ByLevel × T3OfBoth × TwoLans × LevelsStart × FlagsRefused × FlagsOnP2p
