-- Rows beside C1 to C10, as calls on the sample gateway: each refusal, and of two that meet the first (document 01, "Refusals by
-- number"); what a tick marks and a look up tells; how many T1s wait. On the right of ≡ stand the document's numbers.
use Rattle.std.specs.Prelude.{ℕ, suc, ◌≡◌, Bool, true, false, List, [], ◌∷◌, map, length, replicate, set}
use Rattle.settings.specs.declared.mode.Mode.TheVariants.{Running, Restarting}
use Rattle.model.specs.Answers.{Answer, Refused, Received, Ticked, Told, Done, Noticed, Looked, Metric, HelloFlags, Waits, number_of}
use Rattle.model.specs.Gateway.{Gateway, Refused as RefusedSetup, setup}
use Rattle.model.specs.Step.{Call, At, Over, Receive, Clear, CsnpComplete, LookUp, LinkMetric, Tick, DatabaseComplete, Waiting, step}
use Rattle.model.specs.Trace.{Turn, trace, after}
use Rattle.model.specs.SampleFrames.{settings, frame_of, frame_with, hello, row, calls_of, From}

-- ---- frames

-- a good one, three-way Up
abbrev pub good : List ℕ
good = hello 0 (0 ∷ 0 ∷ 0 ∷ [])

-- three-way Up, Neighbor System ID 192168001009, which is not ours
abbrev pub to_another : List ℕ
to_another = frame_of (240 ∷ 11 ∷ 0 ∷ 0 ∷ 0 ∷ 0 ∷ 1 ∷ 0x19 ∷ 0x21 ∷ 0x68 ∷ 0x00 ∷ 0x10 ∷ 0x09 ∷ [])

-- a Restart TLV of length 0, and a lone type octet behind it
abbrev pub bad : List ℕ
bad = hello 0 []

abbrev pub bad_and_cut : List ℕ
bad_and_cut = frame_with 0 (211 ∷ 0 ∷ 8 ∷ [])

-- the System ID's last octet is octet 15: ours ends in 01, another neighbour's in 03
abbrev pub from : ℕ → List ℕ → List ℕ
from last frame = set frame 14 last

-- octet 1 is not 0x83
abbrev pub not_hello : List ℕ → List ℕ
not_hello frame = set frame 0 0x82

-- PDU Length (octet 19 has its low part) one above the lent octets
abbrev pub too_long : List ℕ → List ℕ
too_long frame = set frame 18 (suc (length frame))

-- ---- calls

-- a frame on a circuit, with a reply buffer of so many octets
abbrev pub receive_on : ℕ → ℕ → List ℕ → Call
receive_on n room frame = At n (Receive 0x020000000002 frame (replicate room 0xFF))

abbrev pub receive : List ℕ → Call
receive frame = receive_on 1 11 frame

-- the sample gateway at clock 83, one P2P circuit with both levels, in the mode Running, its neighbour UP
abbrev pub OnSample : (Gateway → Type 0) → Type 0
OnSample P = From (setup (settings Running 10 80)) (λ g. P (after g (calls_of (row 83 1 (0 ∷ 0 ∷ 0 ∷ []) ∷ []))))

-- of each call on this very gateway, and of a run
abbrev pub numbers : Gateway → List Call → List ℕ
numbers g cs = map (λ c. number_of (step g c).answer) cs

abbrev pub answers : List Turn → List Answer
answers ts = map (λ t. t.outcome.answer) ts

-- 1 to 11, and 0 for the good frame, a buffer of 11 octets and an equal clock
abbrev pub EachNumber : Type 0
EachNumber =
    OnSample
    (λ g.
    numbers g
    (At 2 LinkMetric
    ∷ receive_on 1 10 good
    ∷ receive (not_hello good)
    ∷ receive (too_long good)
    ∷ receive (frame_with 0 (8 ∷ []))
    ∷ receive bad
    ∷ receive (from 0x01 good)
    ∷ receive to_another
    ∷ receive (from 0x03 good)
    ∷ Over (Tick 82)
    ∷ At 1 (CsnpComplete 1)
    ∷ Over (DatabaseComplete 2)
    ∷ receive good
    ∷ Over (Tick 83)
    ∷ [])
    ≡ 1 ∷ 2 ∷ 3 ∷ 4 ∷ 5 ∷ 6 ∷ 7 ∷ 8 ∷ 9 ∷ 10 ∷ 11 ∷ 11 ∷ 0 ∷ 0 ∷ [])

-- two at once: 1 and 2, 2 and 3, 3 and 4, 4 and 5, 5 and 6, 6 and 7, 7 and 8, 8 and 9, 1 and 11
abbrev pub FirstOfTwo : Type 0
FirstOfTwo =
    OnSample
    (λ g.
    numbers g
    (receive_on 2 10 good
    ∷ receive_on 1 10 (not_hello good)
    ∷ receive (not_hello (too_long good))
    ∷ receive (too_long (frame_with 0 (8 ∷ [])))
    ∷ receive bad_and_cut
    ∷ receive (from 0x01 bad)
    ∷ receive (from 0x01 to_another)
    ∷ receive (from 0x03 to_another)
    ∷ At 1 (CsnpComplete 3)
    ∷ Over (DatabaseComplete 3)
    ∷ [])
    ≡ 1 ∷ 2 ∷ 3 ∷ 4 ∷ 5 ∷ 6 ∷ 7 ∷ 8 ∷ 1 ∷ 1 ∷ [])

-- 12: a configured metric of 16,777,215
abbrev pub Twelve : Type 0
Twelve = setup (settings Running 16_777_215 80) ≡ RefusedSetup 12

-- ---- ticks and look-ups

-- a tick without orders that marks circuit 1, or none
abbrev pub marking : Bool → Answer
marking first = Ticked (first ∷ replicate 7 false) (record { t1s = replicate 16 false; flags = 0 }) (record { restart = 0; spf = 0; overload = 0 })

-- "A tick removes each record with expiry at or below the clock, and marks its circuit in the answer": the record's expiry is 83 + 27
abbrev pub Ticks : Type 0
Ticks = OnSample (λ g. answers (trace g (Over (Tick 109) ∷ Over (Tick 110) ∷ Over (Tick 110) ∷ [])) ≡ marking false ∷ marking true ∷ marking false ∷ [])

-- a record's state (2, UP) and whether it is advertised
abbrev pub shown : Answer → ℕ × Bool
shown (Told (Looked r)) = (r.state, r.advertised)
shown (Told Done) = (0, false)
shown (Told (Noticed t)) = (0, false)
shown (Told (Metric n)) = (0, false)
shown (Told (HelloFlags n)) = (0, false)
shown (Told (Waits n some m)) = (0, false)
shown (Refused n) = (0, false)
shown (Received f) = (0, false)
shown (Ticked lost hellos t) = (0, false)

abbrev pub looking : Call
looking = At 1 (LookUp (record { level = 0; system = 0x192168001002; mac = 0 }))

-- "A record is advertised exactly when it is UP and not Suppressed": UP; UP with SA (4); UP, after a frame without the Restart TLV (document 02,
-- W-203); INIT (three-way Down) without SA; none
abbrev pub Advertised : Type 0
Advertised =
    OnSample
    (λ g.
    map shown
    (answers
    (trace g
    (looking
    ∷ receive (hello 0 (4 ∷ []))
    ∷ looking
    ∷ receive (frame_with 0 [])
    ∷ looking
    ∷ receive (hello 2 (0 ∷ []))
    ∷ looking
    ∷ Over (Tick 200)
    ∷ looking
    ∷ [])))
    ≡ (2, true) ∷ (0, false) ∷ (2, false) ∷ (0, false) ∷ (2, true) ∷ (0, false) ∷ (1, false) ∷ (0, false) ∷ (0, false) ∷ [])

-- clear: 1 where there is no such circuit; else the record is gone, and the next hello is a new neighbour's (three-way Down gives INIT)
abbrev pub Clears : Type 0
Clears =
    OnSample
    (λ g.
    (map number_of (answers (trace g (At 2 Clear ∷ At 1 Clear ∷ []))) ≡ 1 ∷ 0 ∷ [])
    × (map shown (answers (trace g (At 1 Clear ∷ looking ∷ receive (hello 2 (0 ∷ [])) ∷ looking ∷ [])))
    ≡ (0, false) ∷ (0, false) ∷ (0, false) ∷ (1, false) ∷ []))

-- how many T1s wait, and the lowest circuit (or none): P2P's one, on circuit 1, in the mode Restarting; none in Running
abbrev pub Waitings : Type 0
Waitings =
    From (setup (settings Restarting 10 80)) (λ g. (step g (Over Waiting)).answer ≡ Told (Waits 1 true 1))
    × OnSample (λ g. (step g (Over Waiting)).answer ≡ Told (Waits 0 false 0))

abbrev pub SampleCalls : Type 0
SampleCalls = EachNumber × FirstOfTwo × Twelve × Ticks × Advertised × Clears × Waitings
