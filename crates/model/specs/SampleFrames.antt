-- What goes into the sample runs (document 01, "Sample runs"): settings, whole frames, and how they are played on a gateway. P2P,
-- circuit 1, configured time 30; own ID 192168001001, neighbour 192168001002.
use Rattle.std.specs.Prelude.{ℕ, ◌+◌, true, List, [], ◌∷◌, length, replicate}
use Rattle.basics.specs.declared.kind.CircuitKind.TheVariants.{P2p}
use Rattle.basics.specs.declared.levels.Levels.{Levels}
use Rattle.settings.specs.declared.mode.Mode.{Mode}
use Rattle.settings.specs.declared.circuit.Circuit.{Circuit}
use Rattle.settings.specs.declared.setup.Settings.{Settings}
use Rattle.model.specs.Gateway.{Gateway, Setup, Refused as RefusedSetup, Started}
use Rattle.model.specs.Step.{Outcome, Call, Receive, Tick, At, Over, Hand}
use Rattle.model.specs.Trace.{Turn, trace}

-- ---- settings

abbrev pub both : Levels
both = record { one = true; two = true }

-- P2P with these levels and this metric; with both levels
abbrev pub p2p_with : Levels → ℕ → Circuit
p2p_with levels metric = record { kind = P2p; levels = levels; mac = 0x020000000001; priority = 64; hold = 30; metric = metric; id = 1 }

abbrev pub circuit : ℕ → Circuit
circuit metric = p2p_with both metric

-- a mode, the circuit's configured metric, a clock; T1 and T2 60
abbrev pub settings : Mode → ℕ → ℕ → Settings
settings mode metric clock =
    record {
      system = 0x192168001001;
      lengths = record { t1 = 60; t2 = 60; tries = 3 };
      clock = clock;
      mode = mode;
      count = 1;
      circuits = replicate 8 (circuit metric);
    }

-- ---- frames

-- the neighbour's hello with Holding Time 27 and these TLVs
abbrev pub frame_of : List ℕ → List ℕ
frame_of tlvs =
    0x83 ∷ 20 ∷ 1 ∷ 0 ∷ 17 ∷ 1 ∷ 0 ∷ 0 ∷ 3 ∷ 0x19 ∷ 0x21 ∷ 0x68 ∷ 0x00 ∷ 0x10 ∷ 0x02 ∷ 0 ∷ 27 ∷ 0 ∷ (20 + length tlvs) ∷ 1 ∷ tlvs

-- .. with this three-way state (0 Up, 1 Initializing, 2 Down) and then these
abbrev pub frame_with : ℕ → List ℕ → List ℕ
frame_with state tlvs = frame_of (240 ∷ 1 ∷ state ∷ tlvs)

-- the same with a Restart TLV of this value
abbrev pub hello : ℕ → List ℕ → List ℕ
hello state v = frame_with state (211 ∷ length v ∷ v)

-- the value of such a TLV: RA, a Remaining Time of one octet, our own System ID
abbrev pub acknowledging : ℕ → List ℕ
acknowledging time = 2 ∷ 0 ∷ time ∷ 0x19 ∷ 0x21 ∷ 0x68 ∷ 0x00 ∷ 0x10 ∷ 0x01 ∷ []

-- the same with a Reverse Metric TLV, and the three-way state Initializing: flags (U is 2), an offset of one octet, no sub-TLVs
abbrev pub reversing : ℕ → ℕ → List ℕ
reversing flags offset = frame_with 1 (16 ∷ 5 ∷ flags ∷ 0 ∷ 0 ∷ offset ∷ 0 ∷ [])

-- ---- how they are played

-- a tick to the clock, and then the frame
pub record Row : Type 0 where
  pub clock : ℕ
  pub frame : List ℕ

abbrev pub row : ℕ → ℕ → List ℕ → Row
row clock state v = record { clock = clock; frame = hello state v }

-- the reply buffer: its twelfth octet is never written
abbrev pub lent_octets : List ℕ
lent_octets = replicate 12 0xFF

-- the frame is received on circuit 1
abbrev pub receiving : List ℕ → Call
receiving octets = At 1 (Receive 0x020000000002 octets lent_octets)

unfoldable pub calls_of : List Row → List Call
calls_of [] = []
calls_of (r ∷ rs) = Over (Tick r.clock) ∷ receiving r.frame ∷ calls_of rs

-- what is seen of the calls that name a circuit, in a run
abbrev pub seen_at : {A : Type 0} → (Outcome → A) → Outcome → Call → List A → List A
seen_at see o (At n l) rest = see o ∷ rest
seen_at see o (Over w) rest = rest
seen_at see o (Hand n p) rest = see o ∷ rest

unfoldable pub seen_by : {A : Type 0} → (Outcome → A) → List Turn → List A
seen_by see [] = []
seen_by see (t ∷ ts) = let rest = seen_by see ts in seen_at see t.outcome t.call rest

abbrev pub played : {A : Type 0} → (Outcome → A) → Gateway → List Row → List A
played see g rs = seen_by see (trace g (calls_of rs))

-- a gateway results from setup, and this holds of it
abbrev pub From : Setup → (Gateway → Type 0) → Type 0
From (RefusedSetup x) P = ⊥
From (Started g hellos) P = P g
