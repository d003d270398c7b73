-- Rows of the three questions (document 02, W-204), on the gateways of document 01's sample runs and on a LAN. On the right of ≡ stand the documents'
-- refusals, lines, priorities, MACs and System IDs.
use Rattle.std.specs.Prelude.{ℕ, ◌+◌, ◌≡◌, List, [], ◌∷◌, ◌++◌, map, set}
use Rattle.basics.specs.declared.refusal.Refusal.TheVariants.{NoCircuit, BadTlv}
use Rattle.settings.specs.declared.mode.Mode.TheVariants.{Running}
use Rattle.adjacency.specs.declared.record.Key.{Key}
use Rattle.model.specs.Gateway.{Gateway, setup}
use Rattle.model.specs.Step.{Call, At, Over, Hand, Receive, Release, Clear, CsnpComplete, LookUp, LinkMetric, NextHello, Tick, Waiting}
use Rattle.model.specs.Trace.{after}
use Rattle.model.specs.SampleFrames.{settings, hello, From}
use Rattle.model.specs.SampleCalls.{OnSample, bad, receive, receive_on, good}
use Rattle.model.specs.SampleRuns.{key}
use Rattle.model.specs.SampleStarts.{settings_with, lan, on_lan, listing}
use Rattle.reasons.specs.Why.{Why, NotSo, Init, Suppressed, NoRecord, Refused, Expired, Released, Cleared, Fits, Outranked, why_of}
use Rattle.reasons.specs.declared.why.Question.TheVariants.{NotAdvertised, Vanished, NoCsnps}

-- the sample gateway before its neighbour's first frame
abbrev pub OnEmpty : (Gateway → Type 0) → Type 0
OnEmpty P = From (setup (settings Running 10 80)) P

-- flags alone, Remaining Time 0, in a frame with the three-way state Up (0) or Down (2)
abbrev pub flagged : ℕ → ℕ → Call
flagged state flags = receive (hello state (flags ∷ 0 ∷ 0 ∷ []))

-- PR, Remaining Time 300
abbrev pub announcing : Call
announcing = receive (hello 0 (8 ∷ 0x01 ∷ 0x2C ∷ []))

-- ---- not advertised, of the neighbour on circuit 1

abbrev pub unshown : Gateway → ℕ → List Call → List Why
unshown g n cs = map (λ c. why_of NotAdvertised g c n key) cs

-- It stands UP: a hello; one with three-way Down, without and with SA (4): INIT comes first; SA while UP; a hello refused 6, at octet 24, which leaves it UP; a tick
-- at its expiry, 83 + 27. No record stands on circuit 2, which is not there: a receive there, refused 1, and one refused on circuit 1.
abbrev pub Unshowns : Type 0
Unshowns =
    OnSample
    (λ g.
    (unshown g 1 (flagged 0 0 ∷ flagged 2 0 ∷ flagged 2 4 ∷ flagged 0 4 ∷ receive bad ∷ Over (Tick 110) ∷ [])
    ≡ NotSo ∷ Init ∷ Init ∷ Suppressed ∷ NotSo ∷ NoRecord ∷ [])
    × (unshown g 2 (receive_on 2 11 good ∷ receive bad ∷ []) ≡ Refused NoCircuit ∷ NoRecord ∷ []))

-- None stands: a hello refused 6, at octet 24; the same on circuit 2, refused 1 there; a tick refused 10; calls that leave all as it is
abbrev pub Unknowns : Type 0
Unknowns =
    OnEmpty
    (λ g.
    unshown g 1 (receive bad ∷ receive_on 2 11 bad ∷ Over (Tick 79) ∷ At 1 (LookUp key) ∷ At 1 LinkMetric ∷ At 1 (NextHello 1) ∷ Over Waiting ∷ [])
    ≡ Refused (BadTlv 24) ∷ NoRecord ∷ NoRecord ∷ NoRecord ∷ NoRecord ∷ NoRecord ∷ NoRecord ∷ [])

-- ---- vanished

abbrev pub gone : Gateway → Key → List Call → List Why
gone g k cs = map (λ c. why_of Vanished g c 1 k) cs

abbrev pub nobody : Key
nobody = record { level = 0; system = 0x192168001009; mac = 0 }

-- Its expiry is 110: a tick to 109 and to 110; a release, which leaves what is not Planned, and after PR; clear; a hello. Another, which never stood.
abbrev pub Goings : Type 0
Goings =
    OnSample
    (λ g.
    (gone g key (Over (Tick 109) ∷ Over (Tick 110) ∷ At 1 Release ∷ At 1 Clear ∷ flagged 2 0 ∷ []) ≡ NotSo ∷ Expired ∷ NotSo ∷ Cleared ∷ NotSo ∷ [])
    × (gone (after g (announcing ∷ [])) key (At 1 Release ∷ At 2 Release ∷ []) ≡ Released ∷ NotSo ∷ [])
    × (gone g nobody (Over (Tick 110) ∷ At 1 Clear ∷ []) ≡ NotSo ∷ NotSo ∷ []))

-- ---- no CSNPs, asked with a circuit and a key that do not count

abbrev pub silent : Gateway → List Call → List Why
silent g cs = map (λ c. why_of NoCsnps g c 9 nobody) cs

-- RR while UP: ordered. RR of no record: line 2. PR: line 3. Flags clear after PR: line 4, and else line 5. Refused 6, at octet 24, and 1 on circuit 2. A tick.
abbrev pub Lines : Type 0
Lines =
    OnSample
    (λ g.
    (silent g (flagged 0 1 ∷ announcing ∷ flagged 0 0 ∷ receive bad ∷ receive_on 2 11 good ∷ Over (Tick 110) ∷ [])
    ≡ NotSo ∷ Fits 3 ∷ Fits 5 ∷ Refused (BadTlv 24) ∷ Refused NoCircuit ∷ NotSo ∷ [])
    × (silent (after g (announcing ∷ [])) (flagged 0 0 ∷ []) ≡ Fits 4 ∷ []))
    × OnEmpty (λ g. silent g (flagged 2 1 ∷ []) ≡ Fits 2 ∷ [])

-- ---- the greatest pair, on a LAN of level 1: our pair is (64, 020000000001)

-- a hello of 19216800100x, MAC 02000000000x and priority 64, that lists us, with these flags; the same with this priority (octet 20), and with this MAC
abbrev pub heard : ℕ → ℕ → Call
heard x flags = on_lan x (listing (211 ∷ 3 ∷ flags ∷ 0 ∷ 0 ∷ []))

abbrev pub frame_by : (List ℕ → List ℕ) → (ℕ → ℕ) → Call → Call
frame_by f m (At n (Receive mac frame b)) = At n (Receive (m mac) (f frame) b)
frame_by f m (At n Release) = At n Release
frame_by f m (At n Clear) = At n Clear
frame_by f m (At n (CsnpComplete level)) = At n (CsnpComplete level)
frame_by f m (At n (LookUp k)) = At n (LookUp k)
frame_by f m (At n LinkMetric) = At n LinkMetric
frame_by f m (At n (NextHello level)) = At n (NextHello level)
frame_by f m (Over w) = Over w
frame_by f m (Hand n p) = Hand n p

abbrev pub heard_with : ℕ → ℕ → Call
heard_with x priority = frame_by (λ l. set l 19 priority) (λ m. m) (heard x 0)

abbrev pub heard_from : ℕ → ℕ → Call
heard_from x mac = frame_by (λ l. l) (λ m. 0x020000000000 + mac) (heard x 0)

-- After these hellos and one of 192168001002, RR from that neighbour, whose own pair counts no more: nobody else, so we order; three more, of which the
-- second has the greatest pair; one with a greater MAC, which restarts too and so is left aside; priority 100 goes before every MAC; a priority below
-- ours; one MAC with three System IDs, of which the lowest is named; and a hello without the Restart TLV.
abbrev pub restarts : List Call → Gateway → List Why
restarts cs g = silent (after g (cs ++ heard 2 0 ∷ [])) (heard 2 1 ∷ [])

abbrev pub OnLan : (Gateway → Type 0) → Type 0
OnLan P = From (setup (settings_with Running 3 1 lan)) P

abbrev pub Pairs : Type 0
Pairs =
    OnLan (λ g. restarts [] g ≡ NotSo ∷ [])
    × OnLan (λ g. restarts (heard 3 0 ∷ heard 7 0 ∷ heard 5 0 ∷ []) g ≡ Outranked 0x192168001007 64 0x020000000007 ∷ [])
    × OnLan (λ g. restarts (heard 9 0 ∷ heard 9 1 ∷ heard 3 0 ∷ heard 7 0 ∷ []) g ≡ Outranked 0x192168001007 64 0x020000000007 ∷ [])
    × OnLan (λ g. restarts (heard 7 0 ∷ heard_with 3 100 ∷ []) g ≡ Outranked 0x192168001003 100 0x020000000003 ∷ [])
    × OnLan (λ g. restarts (heard_with 7 63 ∷ []) g ≡ NotSo ∷ [])
    × OnLan (λ g. restarts (heard 7 0 ∷ heard_from 5 7 ∷ heard_from 6 7 ∷ []) g ≡ Outranked 0x192168001005 64 0x020000000007 ∷ [])
    × OnLan (λ g. restarts (on_lan 7 (listing []) ∷ []) g ≡ NotSo ∷ [])

abbrev pub SampleWhys : Type 0
SampleWhys = Unshowns × Unknowns × Goings × Lines × Pairs
