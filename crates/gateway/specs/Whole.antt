-- The lent memories whole (house): after the gateway's own words two words for each circuit's unfinished frame (document 02, W-205), and in a second
-- memory, which begins, chunks and ends alone take, 1,500 octets for each. And the promise of every call.
use Rattle.std.specs.Prelude.{ℕ, ◌+◌, ◌*◌, ◌<◌, ◌≡◌, Bool, false, List, eqb, Result}
use Rattle.basics.specs.declared.refusal.Refusal.{Refusal}
use Rattle.basics.specs.Mask.{circuits}
use Rattle.basics.specs.Lists.{part, tabulate}
use Rattle.chunks.specs.Chunks.{Unfinished, most_octets}
use Rattle.chunks.specs.Words.{slot_words, pending_of, meant}
use Rattle.model.specs.Answers.{Answer, Refused}
use Rattle.control.specs.declared.setup.Basis.{Basis}
use Rattle.timers.specs.Hellos.{Hellos}
use Rattle.model.specs.Gateway.{Gateway, with_frames, no_frames, Setup}
use Rattle.model.specs.Step.{Call, At, Over, Hand, step}
use Rattle.model.specs.Refusals.{drops}
use Rattle.own_words.specs.Words.{own_words, gateway_of}
use Rattle.own_words.specs.Setup.{Refused as RefusedReport, report_of, report_in, started_in, Begins}
use Rattle.timers.specs.declared.hellos.HelloOrders.{HelloOrders}

abbrev pub gateway_words : ℕ
gateway_words = own_words + slot_words * circuits

abbrev pub frame_octets : ℕ
frame_octets = most_octets * circuits

-- where the words and the octets of circuit i's (from 0) unfinished frame stand
abbrev pub slot_place : ℕ → ℕ
slot_place i = own_words + slot_words * i

abbrev pub octets_place : ℕ → ℕ
octets_place i = most_octets * i

unfoldable pub unfinished_at : List ℕ → List ℕ → ℕ → Unfinished
unfinished_at ws fs i = meant (part (octets_place i) most_octets fs) (pending_of (part (slot_place i) slot_words ws))

-- any words and any octets mean some gateway
unfoldable pub whole_of : List ℕ → List ℕ → Gateway
whole_of ws fs = with_frames (gateway_of ws) (tabulate (unfinished_at ws fs) circuits)

-- ---- what every call is to do

-- whether the octets of circuit i (from 0) are the call's to write
abbrev pub writes_at : Call → ℕ → Bool
writes_at (At n l) i = false
writes_at (Over w) i = false
writes_at (Hand n p) i = eqb n (i + 1)

-- The call c on the words ws and the octets fs, a being its answer: answer, reply buffer and gateway at exit are those of its step. The octets of other
-- circuits stay, those of dropped frames too. A refusal leaves every octet and every word as it was, but that an end which receive refuses drops its frame:
-- the gateway's own words stay then.
pub record DoesWith (c : Call) (a : Answer) (ws fs ws' fs' b' : List ℕ) : Type 0 where
  pub answer : a ≡ (step (whole_of ws fs) c).answer
  pub reply : b' ≡ (step (whole_of ws fs) c).reply
  pub next : whole_of ws' fs' ≡ (step (whole_of ws fs) c).next
  pub elsewhere : (i : ℕ) → i < circuits → writes_at c i ≡ false → part (octets_place i) most_octets fs' ≡ part (octets_place i) most_octets fs
  pub octets : (x : Refusal) → a ≡ Refused x → fs' ≡ fs
  pub own : (x : Refusal) → a ≡ Refused x → part 0 own_words ws' ≡ part 0 own_words ws
  pub kept : (x : Refusal) → a ≡ Refused x → drops c x ≡ false → ws' ≡ ws

-- a call that takes no octets: the same, whatever they are
abbrev pub Does : Call → Answer → List ℕ → List ℕ → List ℕ → Type 0
Does c a ws ws' b' = (fs : List ℕ) → DoesWith c a ws fs ws' fs b'

-- Setup in parts, once the circuits are put: the rest begins, and no frame is begun.
pub record Starts (b : Basis) (ws ws' : List ℕ) (hellos : Hellos) : Type 0 where
  pub begins : Begins b ws ws' hellos
  pub frames : (fs : List ℕ) → (whole_of ws' fs).unfinished ≡ no_frames

-- setup, o being its outcome: a new gateway, with no frame begun, or every word as it was
pub record SetsUpWith (o : Setup) (ws fs ws' : List ℕ) (r : Result HelloOrders Refusal) : Type 0 where
  pub answer : report_of r ≡ report_in o
  pub next : whole_of ws' fs ≡ started_in (whole_of ws fs) o
  pub kept : (x : ℕ) → report_of r ≡ RefusedReport x → ws' ≡ ws

abbrev pub SetsUpWhole : Setup → List ℕ → List ℕ → Result HelloOrders Refusal → Type 0
SetsUpWhole o ws ws' r = (fs : List ℕ) → SetsUpWith o ws fs ws' r
