-- The laws of the exported calls: what the gateway's call meets, told by a number; and how many T1s run at most.
use Prim.Native.Nat.{ℕ, ◌≤◌}
use native.Mathlib.Omega.{arith}
use mathlib.Core.Path.{◌≡◌, ap, subst, ◌∙◌}
use mathlib.Core.Bool.{Bool}
use mathlib.Core.List.{List, [], ◌∷◌}
use lib.ListN.{length, set}
use Rattle.basics.specs.Mask.{t1_places, count_true}
use Rattle.basics.proofs.BitLaws.{bit_le}
use Rattle.timer_parts.specs.declared.t1.T1.{T1}
use Rattle.timers.specs.Timers.{count_runs}
use Rattle.timers.specs.Memory.{timers_of, t1_bits}
use Rattle.timers.proofs.T1sLaws.{length-joined, length-bits}
use Rattle.control.specs.Words.{common_of}
use Rattle.model.specs.Answers.{Answer, Told, Waits}
use Rattle.model.specs.Step.{Call, Over, step, judge, carry}
use Rattle.model.specs.Step.{Waiting as WaitingCall}
use Rattle.own_words.specs.Words.{gateway_of}
use Rattle.gateway.specs.Whole.{whole_of, DoesWith, Does}
use Rattle.isis_gr.specs.Words.{answer_no, changed_no}
use Rattle.isis_gr.specs.declared.answers.ReceivedWords.{ReceivedWords}
use Rattle.isis_gr.specs.Encodes.{EncodesWith, EncodesFrameWith, Encodes}

-- of an answer, the step's
pub with-octets : {w : ℕ} {a : Answer} {c : Call} {ws fs ws' fs' b' : List ℕ} → DoesWith c a ws fs ws' fs' b' → w ≡ answer_no a → EncodesWith w c ws fs ws' fs' b'
with-octets {c = c} {ws} {fs} {ws'} {fs'} {b'} m e =
    record { number = e ∙ ap answer_no m.answer; does = subst (λ (x : Answer). DoesWith c x ws fs ws' fs' b') m.answer m }

pub encodes : {w : ℕ} {a : Answer} {c : Call} {ws ws' b' : List ℕ} → Does c a ws ws' b' → w ≡ answer_no a → Encodes w c ws ws' b'
encodes m e fs = with-octets (m fs) e

pub frame-with : {w : ReceivedWords} {a : Answer} {c : Call} {ws fs ws' fs' b' : List ℕ} → DoesWith c a ws fs ws' fs' b' → w.answer ≡ answer_no a
    → w.change ≡ changed_no a → EncodesFrameWith w c ws fs ws' fs' b'
frame-with m e f = record { encodes = with-octets m e; change = f ∙ ap changed_no m.answer }

-- two words, both written
pub set_both : (l : List ℕ) {x y y' : ℕ} → length l ≡ 2 → y ≡ y' → set (set l 0 x) 1 y ≡ x ∷ y' ∷ []
set_both [] h e = absurd (omega arith)
set_both (a ∷ []) h e = absurd (omega arith)
set_both (a ∷ b ∷ []) {x} h e = ap (λ (y : ℕ). x ∷ y ∷ []) e
set_both (a ∷ b ∷ c ∷ l) h e = absurd (omega arith)

count_runs-le : (l : List T1) → count_runs l ≤ length l
unfolding count_runs count_true
count_runs-le [] = omega arith
count_runs-le (t ∷ l) = omega (arith, bit_le t.runs, count_runs-le l)

t1s-length : (ws : List ℕ) → length (gateway_of ws).common.timers.t1s ≡ t1_places
unfolding gateway_of common_of timers_of
t1s-length ws = length-joined (t1_bits _) _ ∙ length-bits _

pub waiting-le : {count lowest : ℕ} {some : Bool} {ws : List ℕ} → Does (Over WaitingCall) (Told (Waits count some lowest)) ws ws [] → count ≤ t1_places
unfolding step judge carry whole_of
waiting-le {count} {ws = ws} m =
    let e : count ≡ count_runs (gateway_of ws).common.timers.t1s = cc (m []).answer in
    omega (arith, count_runs-le (gateway_of ws).common.timers.t1s, t1s-length ws)
