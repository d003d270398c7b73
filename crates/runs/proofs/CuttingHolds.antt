-- Any cutting, of the code's runs: the last call of a run is the model's last step.
use Prim.Native.Nat.{ℕ, ◌≤◌}
use native.Mathlib.Omega.{arith}
use mathlib.Core.Path.{◌≡◌, refl, ap, sym, ◌∙◌}
use mathlib.Core.List.{List, [], ◌∷◌, ◌++◌, map}
use lib.ListN.{length}
use lib.Dec.{ltb}
use borrow.Author.Tests.{ltb-false}
use Rattle.basics.specs.Mask.{circuits}
use Rattle.basics.proofs.BoolLaws.{by-test}
use Rattle.basics.proofs.ListLaws.{length-tabulate}
use Rattle.settings.specs.declared.circuit.Circuit.{Circuit}
use Rattle.control.specs.Common.{circuit_of}
use Rattle.control.specs.Words.{control_words, sealed, count_place, count_in, count_of}
use Rattle.control.proofs.CommonLaws.{circuits-length}
use Rattle.basics.specs.Lists.{part}
use Rattle.model.specs.Gateway.{Gateway, with_unfinished}
use Rattle.chunks.specs.Chunks.{NoFrame, joined}
use Rattle.model.specs.Step.{Call, At, Hand, Receive, Begin, End, step}
use Rattle.model.specs.Trace.{Turn, trace, left_by, after}
use Rattle.own_words.specs.Words.{gateway_of}
use Rattle.gateway.specs.Whole.{unfinished_at, whole_of}
use Rattle.invariants.proofs.CommonLaws.{known-stands}
use Rattle.invariants.proofs.CuttingLaws.{any-cutting}
use Rattle.runs.specs.Runs.{Lent, meaning, Made, Ran, turn_of}
use Rattle.runs.specs.Claims.{CodeCutting}
use Rattle.runs.proofs.ClaimsHold.{code-follows}
use Rattle.std.specs.Prelude.{Some}

-- ---- the last of a list

abbrev last_of : {A : Type 0} → A → List A → A
last_of d [] = d
last_of d (x ∷ xs) = last_of x xs

last-map : {A B : Type 0} (f : A → B) (d : B) (xs : List A) (x : A) → last_of d (map f (xs ++ x ∷ [])) ≡ f x
last-map f d [] x = refl
last-map f d (y ∷ xs) x = last-map f (f y) xs x

abbrev turn_at : Gateway → Call → Turn
turn_at g c = record { before = g; call = c; outcome = step g c }

last-trace : (d : Turn) (g : Gateway) (xs : List Call) (c : Call) → last_of d (trace g (xs ++ c ∷ [])) ≡ turn_at (after g xs) c
unfolding trace left_by
last-trace d g [] c = refl
last-trace d g (x ∷ xs) c = last-trace (turn_at g x) (step g x).next xs c

last_made : (m left : Lent) (xs : List Call) (c : Call) (ms : List Made) (e : Made) → Ran m (xs ++ c ∷ []) (ms ++ e ∷ []) left
    → turn_of e ≡ turn_at (after (meaning m) xs) c
last_made m left xs c ms e r =
    sym (last-map turn_of (turn_of e) ms e) ∙ ap (last_of (turn_of e)) (code-follows m left (xs ++ c ∷ []) (ms ++ e ∷ []) r).turns
    ∙ last-trace (turn_of e) (meaning m) xs c

-- ---- lent memories have a place for every circuit's frame

-- the words' count is at most that of a mask
count-le : (n : ℕ) → count_in n ≤ circuits
count-le n = by-test (ltb circuits n) (λ e. rw e (omega arith)) (λ e. rw e (ltb-false circuits n e))

has-place : (m : Lent) (n : ℕ) (s : Circuit) → circuit_of (meaning m).common n ≡ Some s → n ≤ length (meaning m).unfinished
unfolding whole_of gateway_of count_of
has-place m n s e =
    let l : length (meaning m).common.circuits ≤ circuits = rw (circuits-length (part 0 control_words m.words)) (count-le (sealed (part 0 control_words m.words) count_place)) in
    let k = known-stands (meaning m).common n s e in
    omega (arith, length-tabulate (unfinished_at m.words m.octets) circuits, l, k.0)

pub code-cutting : CodeCutting
code-cutting m₁ m₂ left₁ left₂ same n mac s known cs others chunks between fit b ms₁ ms₂ e r r₁ r₂ =
    let x = last_made m₁ left₁ (Hand n (Begin mac) ∷ cs) (Hand n (End b)) ms₁ e r₁ in
    let y = last_made m₂ left₂ others (At n (Receive mac (joined chunks) b)) ms₂ r r₂ ∙ ap (λ (g : Gateway). turn_at (after g others) (At n (Receive mac (joined chunks) b))) (sym same) in
    let c = any-cutting (meaning m₁) n mac s known (has-place m₁ n s known) cs others chunks between fit b in
    record {
      answer = ap (λ (t : Turn). t.outcome.answer) x ∙ c.answer ∙ sym (ap (λ (t : Turn). t.outcome.answer) y);
      reply = ap (λ (t : Turn). t.outcome.reply) x ∙ c.reply ∙ sym (ap (λ (t : Turn). t.outcome.reply) y);
      next = ap (λ (t : Turn). t.outcome.next) x ∙ c.next ∙ sym (ap (λ (t : Turn). with_unfinished t.outcome.next n NoFrame) y);
    }
