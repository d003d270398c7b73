-- What is proved of the code's own runs: they are the model's, and demands 1 and 3, the invariants and any cutting of a frame (document 02, W-205) hold of
-- the lent memories.
use Rattle.std.specs.Prelude.{ℕ, ◌≤◌, ◌≡◌, false, List, [], ◌∷◌, ◌++◌, length, Some}
use Rattle.basics.specs.declared.refusal.Refusal.{Refusal}
use Rattle.settings.specs.declared.circuit.Circuit.{Circuit}
use Rattle.settings.specs.declared.mode.Mode.TheVariants.{Running}
use Rattle.settings.specs.declared.setup.Settings.{Settings}
use Rattle.basics.specs.Lists.{part}
use Rattle.chunks.specs.Chunks.{NoFrame, most_octets, joined}
use Rattle.control.specs.Common.{circuit_of}
use Rattle.model.specs.Answers.{Refused}
use Rattle.model.specs.Gateway.{with_unfinished}
use Rattle.model.specs.Step.{Call, At, Hand, Receive, Begin, End}
use Rattle.model.specs.Trace.{trace, after}
use Rattle.model.specs.Refusals.{lent_by, drops}
use Rattle.model.specs.Claim.{Neighbour, shared, observed_from, Agreeing}
use Rattle.own_words.specs.Words.{own_words}
use Rattle.invariants.specs.Invariants.{AllFit, Invariant}
use Rattle.invariants.specs.Cutting.{Between}
use Rattle.runs.specs.Runs.{Lent, meaning, Made, Ran, Begins, turns_of, EveryCall}

-- Answers, replies and decoded memories of a run are the model's trace, and the memory in the end is what that leaves.
pub record Follows (m : Lent) (cs : List Call) (ms : List Made) (left : Lent) : Type 0 where
  pub turns : turns_of ms ≡ trace (meaning m) cs
  pub next : meaning left ≡ after (meaning m) cs

abbrev pub CodeFollows : Type 0
CodeFollows = (m left : Lent) (cs : List Call) (ms : List Made) → Ran m cs ms left → Follows m cs ms left

-- Demand 1: a refused call leaves every octet of the lent buffer and of unfinished frames, and every word, but that an end which receive refuses drops its
-- frame: the gateway's own words stay then.
pub record Kept (m : Made) : Type 0 where
  pub reply : (x : Refusal) → m.answer ≡ Refused x → m.reply ≡ lent_by m.call
  pub octets : (x : Refusal) → m.answer ≡ Refused x → m.left.octets ≡ m.before.octets
  pub own : (x : Refusal) → m.answer ≡ Refused x → part 0 own_words m.left.words ≡ part 0 own_words m.before.words
  pub words : (x : Refusal) → m.answer ≡ Refused x → drops m.call x ≡ false → m.left.words ≡ m.before.words

abbrev pub CodeKeeps : Type 0
CodeKeeps = (m left : Lent) (cs : List Call) (ms : List Made) → Ran m cs ms left → EveryCall Kept ms

-- Demand 3: two memories set up alike in the mode Running, and two lists of calls that are equal without the bad neighbour's frames.
abbrev pub CodeIsolation : Type 0
CodeIsolation =
    (s : Settings) → s.mode ≡ Running → (m₁ m₂ left₁ left₂ : Lent) → Begins s m₁ → Begins s m₂
    → (b : Neighbour) (xs ys : List Call) → shared b xs ≡ shared b ys
    → (ms₁ ms₂ : List Made) → Ran m₁ xs ms₁ left₁ → Ran m₂ ys ms₂ left₂
    → Agreeing b (observed_from b (meaning m₁) (turns_of ms₁)) (observed_from b (meaning m₂) (turns_of ms₂))

-- What always holds, of the memory after any run from a set-up in any mode.
abbrev pub CodeInvariants : Type 0
CodeInvariants =
    (s : Settings) (m left : Lent) → Begins s m → (cs : List Call) (ms : List Made) → AllFit cs → Ran m cs ms left → Invariant s (meaning left)

-- Any cutting: a frame that the code's calls hand over in chunks, with any other calls between, and the same frame given whole to receive after the same
-- other calls, from memories that mean the same gateway. The last call of each run has one answer and one reply, and leaves one gateway, but that no frame is
-- left on the circuit after the end.
pub record EndsSo (n : ℕ) (e r : Made) : Type 0 where
  pub answer : e.answer ≡ r.answer
  pub reply : e.reply ≡ r.reply
  pub next : meaning e.left ≡ with_unfinished (meaning r.left) n NoFrame

abbrev pub CodeCutting : Type 0
CodeCutting =
    (m₁ m₂ left₁ left₂ : Lent) → meaning m₁ ≡ meaning m₂ → (n mac : ℕ) (s : Circuit) → circuit_of (meaning m₁).common n ≡ Some s
    → (cs others : List Call) (chunks : List (List ℕ)) → Between n cs chunks others → length (joined chunks) ≤ most_octets → (b : List ℕ)
    → (ms₁ ms₂ : List Made) (e r : Made)
    → Ran m₁ ((Hand n (Begin mac) ∷ cs) ++ Hand n (End b) ∷ []) (ms₁ ++ e ∷ []) left₁
    → Ran m₂ (others ++ At n (Receive mac (joined chunks) b) ∷ []) (ms₂ ++ r ∷ []) left₂
    → EndsSo n e r
