-- Demand 3, proved (document 01, "The runs of demand 3"): the runs stay near over the two lists.
use Prim.Native.Nat.{ℕ}
use mathlib.Core.Path.{◌≡◌, refl}
use mathlib.Core.Bool.{Bool, true, false}
use mathlib.Core.List.{List, [], ◌∷◌}
use native.Mathlib.Omega.{arith}
use Rattle.basics.proofs.BoolLaws.{by-test}
use Rattle.timers.specs.Hellos.{Hellos}
use Rattle.timers.specs.Events.{head_by, started}
use Rattle.settings.specs.declared.mode.Mode.TheVariants.{Running}
use Rattle.settings.specs.Settings.{settings_ok}
use Rattle.settings.specs.declared.setup.Settings.{Settings}
use Rattle.control.specs.Common.{setup_common}
use Rattle.model.specs.Gateway.{Gateway, Started, new_gateway, setup}
use Rattle.model.specs.Step.{Call}
use Rattle.model.specs.Trace.{trace}
use Rattle.model.specs.Claim.{Neighbour, is_its, shared, observed, Agreeing, end, next, Isolation}
use Rattle.model.proofs.ButFor.{but-for-refl}
use Rattle.model.proofs.Near.{Near, near-sym}
use Rattle.model.proofs.NearSteps.{step_kept, its-near}

-- how two lists with the same shared calls go together
data Alike (b : Neighbour) : List Call → List Call → Type 0 where
  none_left : Alike b [] []
  both : {xs ys : List Call} (c : Call) → is_its b c ≡ false → Alike b xs ys → Alike b (c ∷ xs) (c ∷ ys)
  first : {xs ys : List Call} (c : Call) → is_its b c ≡ true → Alike b xs ys → Alike b (c ∷ xs) ys
  second : {xs ys : List Call} (c : Call) → is_its b c ≡ true → Alike b xs ys → Alike b xs (c ∷ ys)

-- a shared call x heads the first list: it is met in the second
meet : (b : Neighbour) (x : Call) (xs : List Call) → is_its b x ≡ false → ((zs : List Call) → shared b xs ≡ shared b zs → Alike b xs zs)
    → (ys : List Call) → x ∷ shared b xs ≡ shared b ys → Alike b (x ∷ xs) ys
unfolding shared
meet b x xs h rest [] e = absurd (let z : ◌≡◌ {A = ℕ} 0 1 = cc in omega arith)
meet b x xs h rest (y ∷ ys) e =
    let go = meet b x xs h rest ys in
    by-test (is_its b y) (λ q. second y q (go (rw q at e)))
    (λ q. let p : x ≡ y = cc in let r : shared b xs ≡ shared b ys = cc in rw (← p) (both x h (rest ys r)))

alike : (b : Neighbour) (xs ys : List Call) → shared b xs ≡ shared b ys → Alike b xs ys
unfolding shared
alike b [] [] e = none_left
alike b [] (y ∷ ys) e =
    let go = alike b [] ys in
    by-test (is_its b y) (λ q. second y q (go (rw q at e))) (λ q. absurd (let z : ◌≡◌ {A = ℕ} 0 1 = cc in omega arith))
alike b (x ∷ xs) ys e =
    let go = alike b xs in
    by-test (is_its b x) (λ q. first x q (go ys (rw q at e))) (λ q. meet b x xs q go ys (rw q at e))

agreeing : {b : Neighbour} {xs ys : List Call} → Alike b xs ys → (s₁ s₂ : Bool) (g₁ g₂ : Gateway) → Near b s₁ s₂ g₁ g₂
    → Agreeing b (observed b s₁ (trace g₁ xs)) (observed b s₂ (trace g₂ ys))
unfolding observed trace
agreeing none_left s₁ s₂ g₁ g₂ n = end
agreeing {b} (both c e r) s₁ s₂ g₁ g₂ n =
    let k = step_kept b s₁ s₂ g₁ g₂ n c e in rw e (next k.agree (agreeing r _ _ _ _ k.near))
agreeing {b} (first c e r) s₁ s₂ g₁ g₂ n = rw e (agreeing r _ _ _ _ (its-near b s₁ s₂ g₁ g₂ n c e))
agreeing {b} (second c e r) s₁ s₂ g₁ g₂ n = rw e (agreeing r _ _ _ _ (near-sym (its-near b s₂ s₁ g₂ g₁ (near-sym n) c e)))

-- what setup returned
setup-is : (s : Settings) (g : Gateway) (hellos : Hellos) → setup s ≡ Started g hellos → g ≡ new_gateway s
unfolding setup
setup-is s g hellos e = by-test (settings_ok s) (λ h. cc) (λ h. cc)

setup-running : (s : Settings) → s.mode ≡ Running → (new_gateway s).common.timers.mode ≡ Running
unfolding new_gateway setup_common started head_by
setup-running s h = rw h

pub isolation : Isolation
isolation s g hellos r e b xs ys h =
    agreeing (alike b xs ys h) _ _ g g
    (record {
      common = refl;
      mode = rw (setup-is s g hellos e) (setup-running s r);
      lan₁ = λ l. l;
      lan₂ = λ l. l;
      size = refl;
      elsewhere = λ n k. refl;
      frames = refl;
      unfinished = λ n k. refl;
      own = λ h₁ h₂. but-for-refl _ _;
    })
