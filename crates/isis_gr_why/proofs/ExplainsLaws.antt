-- The whole promise, of the parts: the words copied, the call made, the key and the MAC read, and the reason told of both memories.
use Prim.Native.Nat.{ℕ}
use mathlib.Core.Path.{◌≡◌}
use mathlib.Core.List.{List}
use Rattle.adjacency.specs.declared.record.Key.{Key}
use Rattle.model.specs.Step.{Call, step}
use Rattle.own_words.specs.Words.{gateway_of}
use Rattle.reasons.specs.Why.{call_of, reason_of, why_of}
use Rattle.reasons.specs.declared.why.Call.{Call as CallGiven}
use Rattle.reasons.specs.declared.why.Question.{Question}
use Rattle.reasons.specs.declared.why.Reason.{Reason}
use Rattle.isis_gr_why.specs.Explains.{Explains}
use Rattle.isis_gr_why.specs.Told.{Tells, MadeOn}
use Rattle.isis_gr_why.specs.declared.made.Made.{Made}

-- the reason is told of every call that the code can hold
abbrev pub Told : Question → ℕ → List ℕ → List ℕ → ℕ → Key → Made → Reason → Type 0
Told q mac ws ws' n k m r =
    (frame b : List ℕ) (c : Call) → Tells m mac frame b c (step (gateway_of ws) c).answer → gateway_of ws' ≡ (step (gateway_of ws) c).next
    → reason_of r ≡ why_of q (gateway_of ws) c n k

module _ (q : Question) (call : CallGiven) (frame b ws ws' b' : List ℕ) (n : ℕ) (m : Made) (r : Reason) where
  explained : (mac : ℕ) (k : Key) → MadeOn call mac frame b ws ws' b' m → Told q mac ws ws' n k m r → Explains q call mac frame b n k ws ws' b' r
  explained mac k made told =
      record { makes = made.makes; reason = λ j. told frame b (call_of call mac frame b j) (made.tells j) (made.makes.next j) }

  pub explains : (copied : List ℕ) → copied ≡ ws → (mac read : ℕ) → read ≡ mac → (k key : Key) → key ≡ k → MadeOn call mac frame b copied ws' b' m
      → Told q read ws ws' n key m r → Explains q call mac frame b n k ws ws' b' r
  explains copied e mac read p k key h made told = explained mac k (rw e at made) (rw (← p, ← h) told)
