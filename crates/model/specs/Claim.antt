-- Demand 3 (document 01, "The runs of demand 3"; document 02, W-205): a bad neighbour harms itself. What two runs must agree on, and the claim.
use Rattle.std.specs.Prelude.{ℕ, ◌≡◌, ◌≢◌, Bool, true, false, cond, not, ◌&&◌, List, [], ◌∷◌, eqb, Option, Some, None}
use Rattle.timers.specs.Hellos.{Hellos}
use Rattle.basics.specs.declared.kind.CircuitKind.{CircuitKind}
use Rattle.basics.specs.declared.kind.CircuitKind.TheVariants.{Lan, P2p}
use Rattle.adjacency.specs.declared.record.Key.{Key}
use Rattle.settings.specs.declared.mode.Mode.TheVariants.{Running}
use Rattle.settings.specs.declared.setup.Settings.{Settings}
use Rattle.control.specs.Common.{circuit_of}
use Rattle.model.specs.Numbers.{refusal_no}
use Rattle.model.specs.Answers.{Answer, Refused, Received, Ticked, Told, Done, FrameAnswer}
use Rattle.model.specs.Gateway.{Gateway, Started, setup, renew, record_at, unfinished_on}
use Rattle.model.specs.Step.{Local, Receive, Release, Clear, CsnpComplete, LookUp, LinkMetric, NextHello, Call, At, Over, Hand, Outcome}
use Rattle.model.specs.Trace.{Turn, trace}
use Rattle.settings.specs.declared.circuit.Circuit.{Circuit}

-- a bad neighbour: one source MAC on one circuit
pub record Neighbour : Type 0 where
  pub circuit : ℕ
  pub mac : ℕ

-- ---- the lists

-- "The bad neighbour's frames are the receives with its circuit and source MAC."
unfoldable pub is_sent : Neighbour → Local → Bool
is_sent b (Receive mac frame buffer) = eqb mac b.mac
is_sent b Release = false
is_sent b Clear = false
is_sent b (CsnpComplete level) = false
is_sent b (LookUp k) = false
is_sent b LinkMetric = false
is_sent b (NextHello level) = false

-- .. and "every begin, chunk and end on the bad neighbour's circuit may differ along with its frames"
unfoldable pub is_its : Neighbour → Call → Bool
is_its b (At n l) = eqb n b.circuit && is_sent b l
is_its b (Over w) = false
is_its b (Hand n p) = eqb n b.circuit

-- "Without them the lists are equal .. those are the shared calls."
unfoldable pub shared : Neighbour → List Call → List Call
shared b [] = []
shared b (c ∷ cs) = cond (is_its b c) (shared b cs) (c ∷ shared b cs)

-- ---- "On its LAN, until a run answers 9 there"; document 02, W-205: "it covers runs in which every frame there is given whole"

unfoldable pub is_lan : Option Circuit → Bool
is_lan None = false
is_lan (Some s) = by s.kind
  where
    by : CircuitKind → Bool
    by Lan = true
    by P2p = false

-- the call names its circuit
unfoldable pub is_there : Neighbour → Call → Bool
is_there b (At n l) = eqb n b.circuit
is_there b (Over w) = false
is_there b (Hand n p) = eqb n b.circuit

unfoldable pub is_nine : Answer → Bool
is_nine (Refused x) = eqb (refusal_no x) 9
is_nine (Received f) = false
is_nine (Ticked lost hellos t) = false
is_nine (Told f) = false

-- a call there after which the promise stands no more: one that is answered 9, or that hands a frame over in chunks
abbrev pub ends : Call → Answer → Bool
ends (At n l) a = is_nine a
ends (Over w) a = is_nine a
ends (Hand n p) a = true

-- the promise for its LAN stood before a call, and stands after it
abbrev pub still : Neighbour → Bool → Call → Answer → Bool
still b s c a = s && not (is_there b c && ends c a)

-- ---- the runs

-- a shared call, whether the promise for its LAN stands, and what came of the call
pub record Observation : Type 0 where
  pub call : Call
  pub stands : Bool
  pub outcome : Outcome

-- the shared calls of a run
unfoldable pub observed : Neighbour → Bool → List Turn → List Observation
observed b s [] = []
observed b s (t ∷ ts) =
    let z : Bool = still b s t.call t.outcome.answer in
    cond (is_its b t.call) (observed b z ts) (record { call = t.call; stands = z; outcome = t.outcome } ∷ observed b z ts)

-- ---- what is compared

-- ".. but for a tick's mark of the bad neighbour's circuit"
unfoldable pub without_lost : ℕ → Answer → Answer
without_lost n (Ticked lost hellos t) = Ticked (renew lost n false) hellos t
without_lost n (Refused x) = Refused x
without_lost n (Received f) = Received f
without_lost n (Told f) = Told f

-- ".. but for line 1's orders"
abbrev pub without_csnps : FrameAnswer → FrameAnswer
without_csnps f = record { reply = f.reply; time = f.time; ordered = false; csnps = 0; freed = f.freed; hello = f.hello; timers = f.timers; change = f.change }

unfoldable pub unordered : Answer → Answer
unordered (Received f) = Received (without_csnps f)
unordered (Refused x) = Refused x
unordered (Ticked lost hellos t) = Ticked lost hellos t
unordered (Told f) = Told f

-- ".. and look-ups of keys with its MAC"
unfoldable pub compared_there : Neighbour → Local → Answer → Answer
compared_there b (Receive mac frame buffer) a = unordered a
compared_there b (LookUp k) a = cond (eqb k.mac b.mac) (Told Done) a
compared_there b Release a = a
compared_there b Clear a = a
compared_there b (CsnpComplete level) a = a
compared_there b LinkMetric a = a
compared_there b (NextHello level) a = a

unfoldable pub compared : Neighbour → Call → Answer → Answer
compared b (At n l) a = cond (eqb n b.circuit) (compared_there b l a) a
compared b (Over w) a = without_lost b.circuit a
compared b (Hand n p) a = a

-- after a shared call
pub record Agree (b : Neighbour) (x y : Observation) : Type 0 where
  pub call : x.call ≡ y.call
  -- every record and the unfinished frame of every other circuit, and the answer and reply of a call that does not name its circuit
  pub records : (n : ℕ) (k : Key) → n ≢ b.circuit → record_at x.outcome.next n k ≡ record_at y.outcome.next n k
  pub unfinished : (n : ℕ) → n ≢ b.circuit → unfinished_on x.outcome.next n ≡ unfinished_on y.outcome.next n
  pub answer : is_there b x.call ≡ false → compared b x.call x.outcome.answer ≡ compared b y.call y.outcome.answer
  pub reply : is_there b x.call ≡ false → x.outcome.reply ≡ y.outcome.reply
  -- while the promise for its LAN stands in both runs: the same there, but for records with its MAC
  pub own-records : x.stands ≡ true → y.stands ≡ true → (k : Key) → k.mac ≢ b.mac
      → record_at x.outcome.next b.circuit k ≡ record_at y.outcome.next b.circuit k
  pub own-answer : x.stands ≡ true → y.stands ≡ true → compared b x.call x.outcome.answer ≡ compared b y.call y.outcome.answer
  pub own-reply : x.stands ≡ true → y.stands ≡ true → x.outcome.reply ≡ y.outcome.reply

pub data Agreeing (b : Neighbour) : List Observation → List Observation → Type 0 where
  end : Agreeing b [] []
  next : {x y : Observation} {xs ys : List Observation} → Agree b x y → Agreeing b xs ys → Agreeing b (x ∷ xs) (y ∷ ys)

-- ---- the claim

-- what is observed of turns from the gateway g: the promise for its LAN stands at first where the circuit is a LAN
abbrev pub observed_from : Neighbour → Gateway → List Turn → List Observation
observed_from b g ts = observed b (is_lan (circuit_of g.common b.circuit)) ts

-- Any gateway that setup returned in the mode Running, any bad neighbour, any two lists whose calls are equal without its frames.
abbrev pub Isolation : Type 0
Isolation =
    (s : Settings) (g : Gateway) (hellos : Hellos) → s.mode ≡ Running → setup s ≡ Started g hellos
    → (b : Neighbour) (xs ys : List Call) → shared b xs ≡ shared b ys
    → Agreeing b (observed_from b g (trace g xs)) (observed_from b g (trace g ys))
