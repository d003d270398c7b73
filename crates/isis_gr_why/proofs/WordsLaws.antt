-- The call's promise in words.
use Prim.Native.Nat.{ℕ}
use mathlib.Core.Path.{◌≡◌, refl, sym, ◌∙◌}
use mathlib.Core.Bool.{Bool, true, false, true≢false}
use mathlib.Core.List.{List, [], ◌∷◌}
use mathlib.Core.Logic.{⊎_elim}
use native.Mathlib.Omega.{arith}
use types.Run.{OneOf}
use denote.Enum.Declared.{tag_of}
use Rattle.adjacency.specs.declared.record.Key.{Key}
use Rattle.reasons.specs.contracts.why.Reason.{the_type}
use Rattle.reasons.specs.Why.{reason_of}
use Rattle.reasons.specs.declared.why.Call.{Call}
use Rattle.reasons.specs.declared.why.Question.{Question}
use Rattle.reasons.specs.declared.why.Reason.{Reason}
use Rattle.reasons.specs.declared.why.Reason.TheVariants.{NotSo, Init, Suppressed, NoRecord, Refused, Expired, Released, Cleared, Fits, Outranked}
use Rattle.isis_gr_why.specs.Explains.{Explains}
use Rattle.isis_gr_why.specs.Words.{question_of, pair_no, unknown_no, Says, EncodesWhy}
use Rattle.isis_gr_why.specs.declared.words.ReasonWords.{ReasonWords}

-- no reason but one that names a router has a pair
pub pair-none : (w : Reason) → OneOf (0 ∷ 1 ∷ 2 ∷ 3 ∷ 4 ∷ 5 ∷ 6 ∷ 7 ∷ 8 ∷ []) (tag_of the_type w) → 0 ≡ pair_no (reason_of w)
pair-none NotSo h = refl
pair-none Init h = refl
pair-none Suppressed h = refl
pair-none NoRecord h = refl
pair-none (Refused x) h = refl
pair-none Expired h = refl
pair-none Released h = refl
pair-none Cleared h = refl
pair-none (Fits line) h = refl
pair-none (Outranked router) h =
    absurd
    (⊎_elim (λ e. omega arith)
    (⊎_elim (λ e. omega arith)
    (⊎_elim (λ e. omega arith)
    (⊎_elim (λ e. omega arith)
    (⊎_elim (λ e. omega arith) (⊎_elim (λ e. omega arith) (⊎_elim (λ e. omega arith) (⊎_elim (λ e. omega arith) (λ e. omega arith))))))))
    h)

module _ (question : ℕ) (known : Bool) (call : Call) (mac : ℕ) (frame b : List ℕ) (n : ℕ) (k : Key) (ws old : List ℕ) where
  pub encodes-unknown : known ≡ false → EncodesWhy question known call mac frame b n k ws old old b (record { answer = unknown_no; pair = 0 })
  encodes-unknown e =
      record {
        makes = λ h. absurd (true≢false (sym h ∙ e));
        says = λ h. absurd (true≢false (sym h ∙ e));
        unknown = λ h. (refl, refl, refl, refl);
      }

  pub encodes-known : (ws' b' : List ℕ) (w : ReasonWords) → known ≡ true → (q : Question) → q ≡ question_of question → (given : Call) → given ≡ call → (r : Reason)
      → Explains q given mac frame b n k ws ws' b' r → Says (reason_of r) w → EncodesWhy question known call mac frame b n k ws old ws' b' w
  encodes-known ws' b' w e q p given c r x s =
      let y : Explains (question_of question) call mac frame b n k ws ws' b' r = rw (← p, ← c) x in
      record {
        makes = λ h. y.makes;
        says = λ h j. rw (← y.reason j) s;
        unknown = λ h. absurd (true≢false (sym e ∙ h));
      }
