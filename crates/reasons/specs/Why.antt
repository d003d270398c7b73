-- Why (document 02, W-204): the reason, of a gateway before a call, the call, a circuit and a record's key. Each definition goes over the step's outcome.
use Rattle.std.specs.Prelude.{ℕ, cond, List, eqb, Option, Some, None, Result, Ok, Err}
use Rattle.basics.specs.declared.refusal.Refusal.{Refusal}
use Rattle.hello.specs.Hello.{hello_read}
use Rattle.adjacency.specs.Keys.{key_on, key_in}
use Rattle.adjacency.specs.React.{line_in}
use Rattle.adjacency.specs.declared.marks.Line.{Line}
use Rattle.adjacency.specs.declared.marks.Line.TheVariants.{One, Two, Three, Four, Five}
use Rattle.adjacency.specs.declared.record.Key.{Key}
use Rattle.adjacency.specs.declared.record.State.TheVariants.{Init as InitState, Up as UpState}
use Rattle.settings.specs.declared.circuit.Circuit.{Circuit}
use Rattle.control.specs.Common.{circuit_of}
use Rattle.model.specs.Answers.{Answer, Refused as RefusedAnswer, Received, Ticked, Told}
use Rattle.model.specs.Gateway.{Gateway, room_of, record_at}
use Rattle.model.specs.Receive.{here_of, rank_of}
use Rattle.model.specs.Step.{Receive, Release, Clear, CsnpComplete, LookUp, LinkMetric, NextHello, Tick, DatabaseComplete, Waiting, Call, At, Over, Hand, Outcome, asks_level, step}
use Rattle.reasons.specs.Duty.{duty_in}
use Rattle.reasons.specs.declared.why.Call.{Call as CallGiven}
use Rattle.reasons.specs.declared.why.Call.TheVariants.{Receive as ReceiveOn, Tick as TickTo, Release as ReleaseOn, Clear as ClearOn, CsnpComplete as CsnpOn, DatabaseComplete as DatabaseOf, LookUp as LookUpOn, LinkMetric as MetricOn, NextHello as NextOn, Waiting as WaitingT1s}
use Rattle.reasons.specs.declared.why.Router.{Router}
use Rattle.reasons.specs.declared.why.Question.{Question}
use Rattle.reasons.specs.declared.why.Question.TheVariants.{NotAdvertised, Vanished, NoCsnps}
use Rattle.reasons.specs.declared.why.Reason.{Reason}
use Rattle.reasons.specs.declared.why.Reason.TheVariants.{NotSo as NotSoCode, Init as InitCode, Suppressed as SuppressedCode, NoRecord as NoRecordCode, Refused as RefusedCode, Expired as ExpiredCode, Released as ReleasedCode, Cleared as ClearedCode, Fits as FitsCode, Outranked as OutrankedCode}
use Rattle.hello.specs.declared.read.Hello.{Hello}
use Rattle.adjacency.specs.declared.record.State.{State}

-- ---- the reasons, in document 01's numbers

pub data Why : Type 0 where
  NotSo : Why
  Init : Why
  Suppressed : Why
  NoRecord : Why
  Refused : Refusal → Why
  Expired : Why
  Released : Why
  Cleared : Why
  Fits : (line : ℕ) → Why
  Outranked : (system priority mac : ℕ) → Why

-- lines 1 to 5 of "Marks and holding time"
abbrev pub line_no : Line → ℕ
line_no One = 1
line_no Two = 2
line_no Three = 3
line_no Four = 4
line_no Five = 5

-- ---- the record

-- "a circuit not there has no record", and no more has a level not enabled there
unfoldable pub stands_on : Gateway → ℕ → Key → Option Circuit → Option State
stands_on g n k None = None
stands_on g n k (Some s) = cond (asks_level s.kind s.levels k.level) (record_at g n (key_on s.kind k)) None

unfoldable pub standing : Gateway → ℕ → Key → Option State
standing g n k = stands_on g n k (circuit_of g.common n)

-- ---- a call

-- What is said of a receive by its circuit, source MAC and frame, and what of every other call. The questions are about calls of document 01: begins,
-- chunks and ends are none.
abbrev pub of_receive : {A : Type 0} → Call → (ℕ → ℕ → List ℕ → A) → A → A
of_receive (At m (Receive mac frame b)) f other = f m mac frame
of_receive (At m Release) f other = other
of_receive (At m Clear) f other = other
of_receive (At m (CsnpComplete level)) f other = other
of_receive (At m (LookUp k)) f other = other
of_receive (At m LinkMetric) f other = other
of_receive (At m (NextHello level)) f other = other
of_receive (Over w) f other = other
of_receive (Hand m p) f other = other

-- ---- "why is this neighbour not advertised"

-- "the number of a receive refused there, or 'no record'": n is the circuit that is asked for, m the receive's
unfoldable pub turned_away : ℕ → ℕ → Answer → Why
turned_away n m (RefusedAnswer x) = cond (eqb m n) (Refused x) NoRecord
turned_away n m (Received f) = NoRecord
turned_away n m (Ticked lost hellos t) = NoRecord
turned_away n m (Told f) = NoRecord

abbrev pub unknown : ℕ → Call → Answer → Why
unknown n c a = of_receive c (λ m mac frame. turned_away n m a) NoRecord

-- of the record after the call: "the first that holds: .. INIT, Suppressed", and then the rest; "not so" of one that is advertised
unfoldable pub not_advertised : ℕ → Call → Answer → Option State → Why
not_advertised n c a None = unknown n c a
not_advertised n c a (Some (InitState d)) = Init
not_advertised n c a (Some (UpState d m)) = cond d.suppressed Suppressed NotSo

-- ---- "why did it vanish"

-- "the expiry or the release"; clear, which is ours, removes records too (house). No other call does.
unfoldable pub gone_by : Call → Why
gone_by (At m (Receive mac frame b)) = NotSo
gone_by (At m Release) = Released
gone_by (At m Clear) = Cleared
gone_by (At m (CsnpComplete level)) = NotSo
gone_by (At m (LookUp k)) = NotSo
gone_by (At m LinkMetric) = NotSo
gone_by (At m (NextHello level)) = NotSo
gone_by (Over (Tick clock)) = Expired
gone_by (Over (DatabaseComplete level)) = NotSo
gone_by (Over Waiting) = NotSo
gone_by (Hand m p) = NotSo

-- of the record before the call and after it: it stood, and stands no more
unfoldable pub vanished : Call → Option State → Option State → Why
vanished c None after = NotSo
vanished c (Some s) (Some v) = NotSo
vanished c (Some s) None = gone_by c

-- ---- "why did we not order CSNPs"

abbrev pub by_duty : Option Router → Why
by_duty None = NotSo
by_duty (Some d) = Outranked d.system d.priority d.mac

-- "the fitting line from 2 to 5, or the greatest pair (priority, MAC) that has the duty"
abbrev pub by_line : Line → Option Router → Why
by_line One d = by_duty d
by_line Two d = Fits (line_no Two)
by_line Three d = Fits (line_no Three)
by_line Four d = Fits (line_no Four)
by_line Five d = Fits (line_no Five)

-- Of an accepted frame: the line that fits is that of the gateway before, the duty that of the room as the frame left it. Its circuit is there, and it was
-- read, so the other clauses are never asked.
unfoldable pub fits_read : Gateway → Gateway → ℕ → Circuit → ℕ → Result Hello Refusal → Why
fits_read g next n s mac (Err x) = NotSo
fits_read g next n s mac (Ok h) =
    by_line (line_in (here_of g.common s) h (record_at g n (key_in s.kind mac h))) (duty_in (rank_of s h) (room_of next n).slots)

unfoldable pub fits_on : Gateway → Gateway → ℕ → ℕ → List ℕ → Option Circuit → Why
fits_on g next n mac frame None = NotSo
fits_on g next n mac frame (Some s) = fits_read g next n s mac (hello_read s.kind s.mac frame)

-- "the refusal's number", "not so" where CSNPs were ordered, or else this
unfoldable pub unordered : Answer → Why → Why
unordered (RefusedAnswer x) w = Refused x
unordered (Received f) w = cond f.ordered NotSo w
unordered (Ticked lost hellos t) w = NotSo
unordered (Told f) w = NotSo

-- it looks at the call alone; "not so" of a call that is no receive
abbrev pub no_csnps : Gateway → Call → Outcome → Why
no_csnps g c o = of_receive c (λ m mac frame. unordered o.answer (fits_on g o.next m mac frame (circuit_of g.common m))) NotSo

-- ---- the reason

unfoldable pub why_of : Question → Gateway → Call → ℕ → Key → Why
why_of NotAdvertised g c n k = let o : Outcome = step g c in not_advertised n c o.answer (standing o.next n k)
why_of Vanished g c n k = vanished c (standing g n k) (standing (step g c).next n k)
why_of NoCsnps g c n k = no_csnps g c (step g c)

-- ---- the code's

-- the call that is given with what it lends: the source MAC, the frame and the reply buffer of a receive; and the key of a look up
abbrev pub call_of : CallGiven → ℕ → List ℕ → List ℕ → Key → Call
call_of (ReceiveOn n) mac frame b k = At n (Receive mac frame b)
call_of (TickTo clock) mac frame b k = Over (Tick clock)
call_of (ReleaseOn n) mac frame b k = At n Release
call_of (ClearOn n) mac frame b k = At n Clear
call_of (CsnpOn n level) mac frame b k = At n (CsnpComplete level)
call_of (DatabaseOf level) mac frame b k = Over (DatabaseComplete level)
call_of (LookUpOn n) mac frame b k = At n (LookUp k)
call_of (MetricOn n) mac frame b k = At n LinkMetric
call_of (NextOn n level) mac frame b k = At n (NextHello level)
call_of WaitingT1s mac frame b k = Over Waiting

abbrev pub reason_of : Reason → Why
reason_of NotSoCode = NotSo
reason_of InitCode = Init
reason_of SuppressedCode = Suppressed
reason_of NoRecordCode = NoRecord
reason_of (RefusedCode x) = Refused x
reason_of ExpiredCode = Expired
reason_of ReleasedCode = Released
reason_of ClearedCode = Cleared
reason_of (FitsCode line) = Fits (line_no line)
reason_of (OutrankedCode d) = Outranked d.system d.priority d.mac
