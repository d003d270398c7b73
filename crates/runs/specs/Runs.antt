-- A run of the code over lent memories: every call keeps its promise on the words, and on the octets of unfinished frames (document 02, W-205), that the
-- last one left (document 01, "The runs of demand 3": "Each call gets the gateway that the last one returned or left; nobody else writes it meanwhile").
use Rattle.std.specs.Prelude.{ℕ, ◌≡◌, List, [], ◌∷◌, map, Result}
use Rattle.settings.specs.declared.setup.Settings.{Settings}
use Rattle.timers.specs.Hellos.{Hellos}
use Rattle.model.specs.Answers.{Answer}
use Rattle.model.specs.Gateway.{Gateway, setup}
use Rattle.model.specs.Step.{Call}
use Rattle.model.specs.Trace.{Turn}
use Rattle.own_words.specs.Setup.{Begun, report_of}
use Rattle.gateway.specs.Whole.{whole_of, DoesWith, SetsUpWhole}
use Rattle.basics.specs.declared.refusal.Refusal.{Refusal}
use Rattle.timers.specs.declared.hellos.HelloOrders.{HelloOrders}

-- the lent memories
pub record Lent : Type 0 where
  pub words : List ℕ
  pub octets : List ℕ

abbrev pub meaning : Lent → Gateway
meaning m = whole_of m.words m.octets

-- what a caller has of a call: the memories before it, the call, its answer, the reply buffer and the memories that it left
pub record Made : Type 0 where
  pub before : Lent
  pub call : Call
  pub answer : Answer
  pub reply : List ℕ
  pub left : Lent

-- the call c on the memories m, as crate gateway's functions promise it; one that takes no octets leaves them
abbrev pub Keeps : Lent → Call → Answer → List ℕ → Lent → Type 0
Keeps m c a b left = DoesWith c a m.words m.octets left.words left.octets b

-- the calls cs on the memories m, what was had of each, and the memories in the end
pub data Ran : Lent → List Call → List Made → Lent → Type 0 where
  done : {m : Lent} → Ran m [] [] m
  also : {m m1 m2 : Lent} {b : List ℕ} {c : Call} {cs : List Call} {a : Answer} {ms : List Made} → Keeps m c a b m1
      → Ran m1 cs ms m2 → Ran m (c ∷ cs) (record { before = m; call = c; answer = a; reply = b; left = m1 } ∷ ms) m2

-- words that a set-up with these settings left, where it was not refused; and any octets
pub data Begins (s : Settings) : Lent → Type 0 where
  begins : {ws0 ws fs : List ℕ} {r : Result HelloOrders Refusal} {hellos : Hellos} → SetsUpWhole (setup s) ws0 ws r → report_of r ≡ Begun hellos
      → Begins s (record { words = ws; octets = fs })

-- the same as a turn of the gateway that the memories mean
abbrev pub turn_of : Made → Turn
turn_of m =
    record {
      before = meaning m.before;
      call = m.call;
      outcome = record { answer = m.answer; reply = m.reply; next = meaning m.left };
    }

abbrev pub turns_of : List Made → List Turn
turns_of ms = map turn_of ms

-- a property of every call that was made
pub data EveryCall (P : Made → Type 0) : List Made → Type 0 where
  none : EveryCall P []
  more : {m : Made} {ms : List Made} → P m → EveryCall P ms → EveryCall P (m ∷ ms)
