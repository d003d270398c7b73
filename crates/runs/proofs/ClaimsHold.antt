-- The claims about the code's runs: a run is the model's trace, by each call's promise; the rest is model's and invariants' theorems.
use Prim.Native.Nat.{ℕ}
use native.Mathlib.Omega.{arith}
use mathlib.Core.Path.{◌≡◌, refl, ap, sym, ◌∙◌, subst₂}
use mathlib.Core.List.{List, ◌∷◌}
use Rattle.settings.specs.declared.setup.Settings.{Settings}
use Rattle.timers.specs.Hellos.{Hellos}
use Rattle.model.specs.Answers.{Answer}
use Rattle.model.specs.Gateway.{Gateway, Setup, Refused, Started, setup}
use Rattle.model.specs.Step.{Call}
use Rattle.model.specs.Trace.{trace, left_by, after}
use Rattle.model.specs.Claim.{observed_from, Agreeing}
use Rattle.model.proofs.RefusalLaws.{refusals-keep}
use Rattle.model.proofs.Isolation.{isolation}
use Rattle.own_words.specs.Setup.{Begun, report_in, started_in}
use Rattle.gateway.specs.Whole.{whole_of}
use Rattle.invariants.proofs.InvariantsHold.{invariants}
use Rattle.runs.specs.Runs.{Lent, meaning, Made, Keeps, done, also, Begins, begins, turns_of, none, more}
use Rattle.runs.specs.Claims.{Follows, CodeFollows, Kept, CodeKeeps, CodeIsolation, CodeInvariants}

-- ---- a run is the model's trace

extend : {m m1 m2 : Lent} {b : List ℕ} {c : Call} {cs : List Call} {a : Answer} {ms : List Made} → Keeps m c a b m1
    → Follows m1 cs ms m2 → Follows m (c ∷ cs) (record { before = m; call = c; answer = a; reply = b; left = m1 } ∷ ms) m2
unfolding trace left_by
extend {cs = cs} m f =
    record {
      turns = rw (f.turns, m.next, m.answer, m.reply) refl;
      next = f.next ∙ ap (λ (g : Gateway). after g cs) m.next;
    }

pub code-follows : CodeFollows
unfolding trace left_by
code-follows m left cs ms done = record { turns = refl; next = refl }
code-follows m left cs ms (also {m1 = m1} {cs = cs1} {ms = ms1} k r) = extend k (code-follows m1 left cs1 ms1 r)

-- ---- demand 1

kept_of : {m m1 : Lent} {b : List ℕ} {c : Call} {a : Answer} → Keeps m c a b m1
    → Kept (record { before = m; call = c; answer = a; reply = b; left = m1 })
kept_of {m} {c = c} k =
    record {
      reply = λ n e. k.reply ∙ (refusals-keep (meaning m) c n (sym k.answer ∙ e)).1;
      octets = k.octets;
      own = k.own;
      words = k.kept;
    }

pub code-keeps : CodeKeeps
code-keeps m left cs ms done = none
code-keeps m left cs ms (also {m1 = m1} {cs = cs1} {ms = ms1} k r) = more (kept_of k) (code-keeps m1 left cs1 ms1 r)

-- ---- from a set-up

pub record Stands (s : Settings) (m : Lent) : Type 0 where
  pub hellos : Hellos
  pub is : setup s ≡ Started (meaning m) hellos

started : (g g0 : Gateway) (o : Setup) (hellos : Hellos) → report_in o ≡ Begun hellos → g ≡ started_in g0 o → o ≡ Started g hellos
started g g0 (Refused n) hellos e q = absurd (let z : ◌≡◌ {A = ℕ} 0 1 = cc in omega arith)
started g g0 (Started d h) hellos e q = let w : h ≡ hellos = cc in cc

stands : {s : Settings} {m : Lent} → Begins s m → Stands s m
stands {s} (begins {ws0} {ws} {fs} {r} {hellos} m e) =
    record { hellos = hellos; is = started (whole_of ws fs) (whole_of ws0 fs) (setup s) hellos (sym (m fs).answer ∙ e) (m fs).next }

-- two set-ups with the same settings leave the same gateway
same_start : {s : Settings} {m₁ m₂ : Lent} → Stands s m₁ → Stands s m₂ → meaning m₁ ≡ meaning m₂
same_start x y = cc (x.is, y.is)

-- ---- demand 3 and the invariants

pub code-isolation : CodeIsolation
code-isolation s r m₁ m₂ left₁ left₂ b₁ b₂ b xs ys h ms₁ ms₂ r₁ r₂ =
    let x = stands b₁ in
    let e = same_start x (stands b₂) in
    let f₁ = code-follows m₁ left₁ xs ms₁ r₁ in
    let f₂ = code-follows m₂ left₂ ys ms₂ r₂ in
    let p : trace (meaning m₁) ys ≡ turns_of ms₂ = ap (λ (g : Gateway). trace g ys) e ∙ sym f₂.turns in
    let q : observed_from b (meaning m₁) (trace (meaning m₁) ys) ≡ observed_from b (meaning m₂) (turns_of ms₂) =
    ap (λ (g : Gateway). observed_from b g (trace (meaning m₁) ys)) e ∙ ap (observed_from b (meaning m₂)) p in
    subst₂ (λ u v. Agreeing b u v) (ap (observed_from b (meaning m₁)) (sym f₁.turns)) q
    (isolation s (meaning m₁) x.hellos r x.is b xs ys h)

pub code-invariants : CodeInvariants
code-invariants s m left b cs ms fit r =
    let x = stands b in
    rw (code-follows m left cs ms r).next (invariants s (meaning m) x.hellos x.is cs fit)
