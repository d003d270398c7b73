-- What each reason says of the step's outcome, and the claims (document 02, W-204: it "names the reason, true of the definitions"): the reason named
-- holds, and "not so" is told exactly when the document says.
use Rattle.std.specs.Prelude.{ℕ, ◌≤◌, ◌≡◌, Bool, true, false, List, ◌⊎◌, eqb, get_or, Option, Some, None, Ok}
use Rattle.basics.specs.declared.refusal.Refusal.{Refusal}
use Rattle.basics.specs.declared.kind.CircuitKind.TheVariants.{Lan}
use Rattle.hello.specs.Hello.{hello_read}
use Rattle.hello.specs.declared.read.Hello.{Hello}
use Rattle.adjacency.specs.Duty.{outranks}
use Rattle.adjacency.specs.Keys.{key_in}
use Rattle.adjacency.specs.Place.{planned_state}
use Rattle.adjacency.specs.React.{line_in}
use Rattle.adjacency.specs.Record.{phase_of, expiry_of, suppressed_of}
use Rattle.adjacency.specs.declared.duty.Rank.{Rank}
use Rattle.adjacency.specs.declared.marks.Line.{Line}
use Rattle.adjacency.specs.declared.marks.Line.TheVariants.{One}
use Rattle.adjacency.specs.declared.place.Slot.{Slot}
use Rattle.adjacency.specs.declared.place.Slot.TheVariants.{Free, Held}
use Rattle.adjacency.specs.declared.record.Key.{Key}
use Rattle.adjacency.specs.declared.record.Phase.TheVariants.{Init as InitPhase, Up as UpPhase}
use Rattle.adjacency.specs.declared.record.Record.{Record}
use Rattle.adjacency.specs.declared.record.State.{State}
use Rattle.settings.specs.declared.circuit.Circuit.{Circuit}
use Rattle.control.specs.Common.{circuit_of}
use Rattle.model.specs.Answers.{Answer, Refused as RefusedAnswer, Received, Ticked, Told, FrameAnswer, is_shown}
use Rattle.model.specs.Gateway.{Gateway, room_of, record_at}
use Rattle.model.specs.Receive.{here_of, rank_of}
use Rattle.model.specs.Step.{Receive, Release, Clear, Tick, Call, At, Over, step}
use Rattle.reasons.specs.Duty.{theirs, pair_at, is_tie}
use Rattle.reasons.specs.Why.{Why, NotSo, Init, Suppressed, NoRecord, Refused, Expired, Released, Cleared, Fits, Outranked, line_no, standing, of_receive, why_of}
use Rattle.reasons.specs.declared.why.Question.{Question}
use Rattle.reasons.specs.declared.why.Question.TheVariants.{NotAdvertised, Vanished, NoCsnps}

-- ---- of a call

-- a receive, and one on circuit n
abbrev pub is_receive : Call → Bool
is_receive c = of_receive c (λ m mac frame. true) false

abbrev pub receives_at : ℕ → Call → Bool
receives_at n c = of_receive c (λ m mac frame. eqb m n) false

abbrev pub orders_csnps : Answer → Bool
orders_csnps (Received f) = f.ordered
orders_csnps (RefusedAnswer x) = false
orders_csnps (Ticked lost hellos t) = false
orders_csnps (Told f) = false

-- the record that is asked for, after the call
abbrev pub leaves : Gateway → Call → ℕ → Key → Option State
leaves g c n k = standing (step g c).next n k

-- the record stood before the call, in this state, and stands no more
pub record Went (g : Gateway) (c : Call) (n : ℕ) (k : Key) (s : State) : Type 0 where
  pub stood : standing g n k ≡ Some s
  pub gone : leaves g c n k ≡ None

-- ---- "not so"

-- "exactly when, in turn, the record is advertised after the call, it didn't go in the call, or the call ordered CSNPs or is no receive"
abbrev pub NotAsAsked : Question → Gateway → Call → ℕ → Key → Type 0
NotAsAsked NotAdvertised g c n k = is_shown (leaves g c n k) ≡ true
NotAsAsked Vanished g c n k = (s : State) → Went g c n k s → ⊥
NotAsAsked NoCsnps g c n k = (orders_csnps (step g c).answer ≡ true) ⊎ (is_receive c ≡ false)

-- ---- not advertised

abbrev pub Unshown : Gateway → Call → ℕ → Key → Why → Type 0
Unshown g c n k NotSo = NotAsAsked NotAdvertised g c n k
Unshown g c n k Init = phase_of (leaves g c n k) ≡ InitPhase
Unshown g c n k Suppressed = (phase_of (leaves g c n k) ≡ UpPhase) × (suppressed_of (leaves g c n k) ≡ true)
Unshown g c n k (Refused x) = (leaves g c n k ≡ None) × (receives_at n c ≡ true) × ((step g c).answer ≡ RefusedAnswer x)
Unshown g c n k NoRecord =
    (leaves g c n k ≡ None) × ((x : Refusal) → receives_at n c ≡ true → (step g c).answer ≡ RefusedAnswer x → ⊥)
Unshown g c n k Expired = ⊥
Unshown g c n k Released = ⊥
Unshown g c n k Cleared = ⊥
Unshown g c n k (Fits line) = ⊥
Unshown g c n k (Outranked system priority mac) = ⊥

-- ---- vanished

-- "A tick removes each record with expiry at or below the clock"
pub record WentAtExpiry (g : Gateway) (c : Call) (n : ℕ) (k : Key) : Type 0 where
  pub state : State
  pub went : Went g c n k state
  pub clock : ℕ
  pub tick : c ≡ Over (Tick clock)
  pub reached : expiry_of state ≤ clock

-- "Release removes a circuit's Planned records"
pub record WentByRelease (g : Gateway) (c : Call) (n : ℕ) (k : Key) : Type 0 where
  pub state : State
  pub went : Went g c n k state
  pub release : c ≡ At n Release
  pub planned : planned_state state ≡ true

pub record WentByClear (g : Gateway) (c : Call) (n : ℕ) (k : Key) : Type 0 where
  pub state : State
  pub went : Went g c n k state
  pub clear : c ≡ At n Clear

abbrev pub Gone : Gateway → Call → ℕ → Key → Why → Type 0
Gone g c n k NotSo = NotAsAsked Vanished g c n k
Gone g c n k Expired = WentAtExpiry g c n k
Gone g c n k Released = WentByRelease g c n k
Gone g c n k Cleared = WentByClear g c n k
Gone g c n k Init = ⊥
Gone g c n k Suppressed = ⊥
Gone g c n k (Refused x) = ⊥
Gone g c n k NoRecord = ⊥
Gone g c n k (Fits line) = ⊥
Gone g c n k (Outranked system priority mac) = ⊥

-- ---- no CSNPs

-- an accepted frame without line 1's order, and the line of "Marks and holding time" that fits it
pub record Unordered (g : Gateway) (c : Call) : Type 0 where
  pub circuit : ℕ
  pub settings : Circuit
  pub mac : ℕ
  pub octets : List ℕ
  pub buffer : List ℕ
  pub hello : Hello
  pub answer : FrameAnswer
  pub receives : c ≡ At circuit (Receive mac octets buffer)
  pub known : circuit_of g.common circuit ≡ Some settings
  pub reads : hello_read settings.kind settings.mac octets ≡ Ok hello
  pub accepted : (step g c).answer ≡ Received answer
  pub without : answer.ordered ≡ false

abbrev pub fitting : (g : Gateway) (c : Call) → Unordered g c → Line
fitting g c u = line_in (here_of g.common u.settings) u.hello (record_at g u.circuit (key_in u.settings.kind u.mac u.hello))

pub record FitsLine (g : Gateway) (c : Call) (line : ℕ) : Type 0 where
  pub frame : Unordered g c
  pub fits : line_no (fitting g c frame) ≡ line
  pub least : 2 ≤ line
  pub most : line ≤ 5

-- a router of this table that has the duty before us, and none has a greater pair; of those with its pair it has the lowest System ID
pub record Greatest (own : Rank) (t : List Slot) (system priority mac : ℕ) : Type 0 where
  pub place : ℕ
  pub entry : Record
  pub stands : get_or t place Free ≡ Held entry
  pub pair : theirs entry ≡ record { system = system; priority = priority; mac = mac }
  pub duty : outranks own entry ≡ true
  pub most : (i : ℕ) (r : Record) → get_or t i Free ≡ Held r → outranks (pair_at own priority mac) r ≡ false
  pub lowest : (i : ℕ) (r : Record) → get_or t i Free ≡ Held r → outranks own r ≡ true → is_tie system priority mac r ≡ false

-- line 1 fitted, on a LAN, and the room is as the frame left it
pub record HasDuty (g : Gateway) (c : Call) (system priority mac : ℕ) : Type 0 where
  pub frame : Unordered g c
  pub fits : fitting g c frame ≡ One
  pub lan : frame.settings.kind ≡ Lan
  pub greatest : Greatest (rank_of frame.settings frame.hello) (room_of (step g c).next frame.circuit).slots system priority mac

abbrev pub Silent : Gateway → Call → ℕ → Key → Why → Type 0
Silent g c n k NotSo = NotAsAsked NoCsnps g c n k
Silent g c n k (Refused x) = (is_receive c ≡ true) × ((step g c).answer ≡ RefusedAnswer x)
Silent g c n k (Fits line) = FitsLine g c line
Silent g c n k (Outranked system priority mac) = HasDuty g c system priority mac
Silent g c n k Init = ⊥
Silent g c n k Suppressed = ⊥
Silent g c n k NoRecord = ⊥
Silent g c n k Expired = ⊥
Silent g c n k Released = ⊥
Silent g c n k Cleared = ⊥

-- ---- the claims

abbrev pub Holds : Question → Gateway → Call → ℕ → Key → Why → Type 0
Holds NotAdvertised g c n k w = Unshown g c n k w
Holds Vanished g c n k w = Gone g c n k w
Holds NoCsnps g c n k w = Silent g c n k w

-- of every gateway, call, circuit and key
abbrev pub WhyHolds : Type 0
WhyHolds = (q : Question) (g : Gateway) (c : Call) (n : ℕ) (k : Key) → Holds q g c n k (why_of q g c n k)

abbrev pub NotSoExactly : Type 0
NotSoExactly = (q : Question) (g : Gateway) (c : Call) (n : ℕ) (k : Key) → NotAsAsked q g c n k → why_of q g c n k ≡ NotSo
