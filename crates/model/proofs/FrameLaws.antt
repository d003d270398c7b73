-- The calls of document 01 know nothing of unfinished frames (document 02, W-205): the same answer and reply whatever frames there are, and these stay.
use mathlib.Core.Path.{◌≡◌, refl, ap}
use mathlib.Core.Bool.{Bool, true, false, true≢false}
use mathlib.Core.List.{List}
use Prim.Native.Nat.{ℕ}
use Rattle.basics.specs.declared.refusal.Refusal.{Refusal}
use Rattle.chunks.specs.Chunks.{Unfinished}
use Rattle.control.specs.Common.{circuit_of}
use Rattle.model.specs.Gateway.{Gateway, with_frames}
use Rattle.model.specs.Step.{Local, Call, At, Over, Hand, Outcome, lift, on, at, Judged, Refused as RefusedCall, Sweep, Tell, judge, carry, step}
use Rattle.model.specs.Refusals.{drops}
use Rattle.std.specs.Prelude.{Option, Some, None}
use Rattle.settings.specs.declared.circuit.Circuit.{Circuit}

-- a begin, a chunk or an end
abbrev pub is_hand : Call → Bool
is_hand (At n l) = false
is_hand (Over w) = false
is_hand (Hand n p) = true

-- the same with these frames
abbrev pub framed : List Unfinished → Outcome → Outcome
framed us o = record { answer = o.answer; reply = o.reply; next = with_frames o.next us }

module _ (g : Gateway) (us : List Unfinished) where
  on-framed : (n : ℕ) (l : Local) (x : Option Circuit) → on (with_frames g us) n l x ≡ framed us (on g n l x)
  unfolding on lift
  on-framed n l None = refl
  on-framed n l (Some s) = refl

  carry-framed : (j : Judged) → carry (with_frames g us) j ≡ framed us (carry g j)
  unfolding carry
  carry-framed (RefusedCall x) = refl
  carry-framed (Sweep clock d hellos o) = refl
  carry-framed (Tell d a) = refl

  pub step-framed : (c : Call) → is_hand c ≡ false → step (with_frames g us) c ≡ framed us (step g c)
  unfolding step at
  step-framed (At n l) e = on-framed n l (circuit_of g.common n)
  step-framed (Over w) e = carry-framed (judge g.common w)
  step-framed (Hand n p) e = absurd (true≢false e)

pub frames-kept : (g : Gateway) (c : Call) → is_hand c ≡ false → (step g c).next.unfinished ≡ g.unfinished
frames-kept g c e = ap (λ (o : Outcome). o.next.unfinished) (step-framed g g.unfinished c e)

pub drops-none : (c : Call) (x : Refusal) → is_hand c ≡ false → drops c x ≡ false
drops-none (At n l) x e = refl
drops-none (Over w) x e = refl
drops-none (Hand n p) x e = absurd (true≢false e)
