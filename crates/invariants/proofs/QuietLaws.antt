-- In the mode Running no timer runs, in the others some T2 does, and in the mode Starting no T3: setup gives it, and the end of every call on the
-- timers.
use Prim.Native.Nat.{ℕ, ◌+◌, ◌<◌}
use native.Mathlib.Omega.{arith}
use mathlib.Core.Path.{◌≡◌, refl, sym, ap, ◌∙◌}
use mathlib.Core.Bool.{Bool, true, false, true≢false}
use mathlib.Core.List.{List, [], ◌∷◌, map}
use lib.ListN.{length}
use Rattle.settings.specs.Mode.{is_running}
use Rattle.settings.specs.Settings.{circuit_ok, circuits_of, enabled_levels}
use Rattle.basics.proofs.BoolLaws.{both, or-true, by-test}
use Rattle.basics.specs.declared.levels.Levels.{Levels}
use Rattle.basics.specs.Levels.{First, is_on, some_on}
use Rattle.basics.specs.Lists.{every, some}
use Rattle.settings.specs.declared.circuit.Circuit.{Circuit}
use Rattle.basics.specs.Mask.{bits_of, any_true}
use Rattle.timer_parts.specs.T1.{stop_t1}
use Rattle.timer_parts.specs.T2.{timer_runs, any_t2, start_timer, start_t2s}
use Rattle.timer_parts.specs.T3.{expires_t3, lower_t3, heard_t3}
use Rattle.timer_parts.specs.declared.t3.T3.TheVariants.{Idle}
use Rattle.timer_parts.specs.declared.heard.Heard.{Heard}
use Rattle.timer_parts.specs.declared.heard.Heard.TheVariants.{WithoutTlv, Acknowledged, Plain}
use Rattle.settings.specs.declared.lengths.Lengths.{Lengths}
use Rattle.timer_parts.specs.declared.t1.T1.{T1}
use Rattle.timers.specs.Timers.{Timers, with_t1s, with_t2s, with_t3, any_runs, at_t1, tick_t1s, expire_t2s, cancel_t2s, tick_t3, over, finish, closed, settled, to_t3, heard_in, csnp_in, notice_t2s}
use Rattle.timers.specs.Events.{head_by, start_t1, start_hellos, started}
use Rattle.timers.specs.declared.events.Start.{Start}
use Rattle.settings.specs.declared.setup.Settings.{Settings}
use Rattle.settings.specs.declared.mode.Mode.{Mode}
use Rattle.settings.specs.declared.mode.Mode.TheVariants.{Running, Restarting, Starting}
use Rattle.control.specs.Common.{start_of}
use Rattle.invariants.specs.Invariants.{Quiet, Restarts, NoT3}

stopped : (l : List T1) → any_runs (map stop_t1 l) ≡ false
unfolding any_runs any_true stop_t1
stopped [] = refl
stopped (t ∷ ts) = stopped ts

-- in the others nothing is said
not-running : (m : Mode) → is_running m ≡ false → {A : Type 0} → m ≡ Running → A
not-running m on e = absurd (true≢false (sym (ap is_running e) ∙ on))

on_quiet : (t : Timers) → is_running t.mode ≡ false → Quiet t
on_quiet t m = record { t1s = λ e. not-running t.mode m e; t2s = λ e. not-running t.mode m e; t3 = λ e. not-running t.mode m e }

-- setup
started-by : (s : Start) (m : Mode) → s.mode ≡ m → Quiet (started s)
unfolding started head_by start_hellos start_t1 start_t2s start_timer any_runs any_true any_t2 bits_of
started-by s Running p = record { t1s = λ e. rw p refl; t2s = λ e. rw p refl; t3 = λ e. rw p refl }
started-by s Restarting p = on_quiet (started s) (rw p refl)
started-by s Starting p = on_quiet (started s) (rw p refl)

pub started-quiet : (s : Start) → Quiet (started s)
started-quiet s = started-by s s.mode refl

no-t3-by : (s : Start) (m : Mode) → s.mode ≡ m → NoT3 (started s)
unfolding started head_by
no-t3-by s Running p = record { idle = λ e. (let z = rw p at e in cc) }
no-t3-by s Restarting p = record { idle = λ e. (let z = rw p at e in cc) }
no-t3-by s Starting p = record { idle = λ e. rw p refl }

pub started-no-t3 : (s : Start) → NoT3 (started s)
started-no-t3 s = no-t3-by s s.mode refl

timer-runs : (on : Bool) (at : ℕ) → timer_runs (start_timer on at) ≡ on
unfolding start_timer
timer-runs true at = refl
timer-runs false at = refl

any-started : (l : Levels) (at : ℕ) → any_t2 (start_t2s l at) ≡ some_on l
unfolding any_t2 start_t2s
any-started l at = rw (timer-runs l.one at, timer-runs l.two at) refl

-- a circuit has a level, and so a level is enabled
some-enabled : (l : List Circuit) → every circuit_ok l ≡ true → 0 < length l → some_on (enabled_levels l) ≡ true
unfolding every circuit_ok enabled_levels some
some-enabled [] ok h = absurd (omega arith)
some-enabled (c ∷ l) ok h =
    let a = (both (circuit_ok c) _ ok).0 in
    let b = (both (some_on c.levels) _ a).0 in
    by-test c.levels.one (λ e. rw e refl)
    (λ e. let f : c.levels.two ≡ true = rw e at b in rw (e, f) (or-true (some (λ d. is_on First d.levels) l)))

module _ (s : Settings) (ok : every circuit_ok (circuits_of s) ≡ true) where
  restarts-by : (m : Mode) → s.mode ≡ m → Restarts s (started (start_of s))
  unfolding started head_by
  restarts-by Running p = record { some = λ h e. (let z = rw p at e in cc) }
  restarts-by Restarting p =
      record {
        some = λ h e. rw p (any-started (enabled_levels (circuits_of s)) (s.clock + s.lengths.t2) ∙ some-enabled (circuits_of s) ok h);
      }
  restarts-by Starting p =
      record {
        some = λ h e. rw p (any-started (enabled_levels (circuits_of s)) (s.clock + s.lengths.t2) ∙ some-enabled (circuits_of s) ok h);
      }

  pub started-restarts : Restarts s (started (start_of s))
  started-restarts = restarts-by s.mode refl

-- ---- the end of every call

finish-quiet : (t : Timers) → is_running t.mode ≡ false → Quiet (finish t)
unfolding finish over
finish-quiet t m =
    by-test (any_t2 t.t2s) (λ a. rw a (on_quiet t m))
    (λ a. rw a (record { t1s = λ e. stopped t.t1s; t2s = λ e. a; t3 = λ e. refl }))

module _ (f : Timers → Timers) (t : Timers) (keeps : (f t).mode ≡ t.mode) where
  closed-quiet : is_running t.mode ≡ false → Quiet (closed f t)
  unfolding closed cancel_t2s with_t2s
  closed-quiet m = finish-quiet (cancel_t2s (f t)) (ap is_running keeps ∙ m)

  pub settled-quiet : Quiet t → Quiet (settled f t)
  unfolding settled
  settled-quiet q = by-test (is_running t.mode) (λ a. rw a q) (λ a. rw a (closed-quiet a))

  -- the mode is the same, or Running
  pub settled-mode : is_running (settled f t).mode ≡ false → (settled f t).mode ≡ t.mode
  unfolding settled closed finish over cancel_t2s with_t2s
  settled-mode on =
      by-test (is_running t.mode) (λ a. rw a refl)
      (λ a. by-test (any_t2 (cancel_t2s (f t)).t2s) (λ b. rw (a, b) keeps)
      (λ b. absurd (true≢false (rw (a, b) at on))))

  -- a T3 that does not run is not begun
  pub settled-no-t3 : (t.t3 ≡ Idle → (f t).t3 ≡ Idle) → NoT3 t → NoT3 (settled f t)
  unfolding settled closed finish over cancel_t2s with_t2s
  settled-no-t3 stays h =
      by-test (is_running t.mode) (λ a. rw a h)
      (λ a. by-test (any_t2 (cancel_t2s (f t)).t2s) (λ b. rw (a, b) (record { idle = λ e. stays (h.idle (sym keeps ∙ e)) }))
      (λ b. rw (a, b) (record { idle = λ e. refl })))

-- some T2 runs, or the mode ends
finish-restarts : (s : Settings) (t : Timers) → Restarts s (finish t)
unfolding finish over
finish-restarts s t =
    by-test (any_t2 t.t2s) (λ a. rw a (record { some = λ on e. a })) (λ a. rw a (record { some = λ on e. cc }))

pub settled-restarts : (s : Settings) (f : Timers → Timers) (t : Timers) → Restarts s t → Restarts s (settled f t)
unfolding settled closed
settled-restarts s f t h = by-test (is_running t.mode) (λ a. rw a h) (λ a. rw a (finish-restarts s (cancel_t2s (f t))))

-- ---- each call's own step keeps the mode

tick_t3-mode : (clock : ℕ) (t : Timers) → (tick_t3 clock t).mode ≡ t.mode
unfolding tick_t3 with_t1s with_t3
tick_t3-mode clock t = by-test (expires_t3 clock t.t2s t.t3) (λ e. rw e refl) (λ e. rw e refl)

pub to_t3-mode : (s : Lengths) (clock : ℕ) (t : Timers) → (to_t3 s clock t).mode ≡ t.mode
unfolding to_t3 cancel_t2s expire_t2s tick_t1s with_t1s with_t2s
to_t3-mode s clock t = tick_t3-mode clock (cancel_t2s (expire_t2s clock (tick_t1s s clock t)))

pub heard_in-mode : (s : Lengths) (clock i : ℕ) (rose : Bool) (d : Heard) (t : Timers) → (heard_in s clock i rose d t).mode ≡ t.mode
unfolding heard_in at_t1 with_t1s with_t3
heard_in-mode s clock i rose d t = refl

pub csnp_in-mode : (i : ℕ) (n : Levels) (t : Timers) → (csnp_in i n t).mode ≡ t.mode
unfolding csnp_in at_t1 with_t1s
csnp_in-mode i n t = refl

pub notice_t2s-mode : (n : Levels) (t : Timers) → (notice_t2s n t).mode ≡ t.mode
unfolding notice_t2s with_t2s
notice_t2s-mode n t = refl

-- ---- and leaves a T3 alone that does not run

tick_t3-idle : (clock : ℕ) (t : Timers) → t.t3 ≡ Idle → (tick_t3 clock t).t3 ≡ Idle
unfolding tick_t3 with_t1s with_t3 expires_t3
tick_t3-idle clock t e = rw e refl

pub to_t3-idle : (s : Lengths) (clock : ℕ) (t : Timers) → t.t3 ≡ Idle → (to_t3 s clock t).t3 ≡ Idle
unfolding to_t3 cancel_t2s expire_t2s tick_t1s with_t1s with_t2s
to_t3-idle s clock t e = tick_t3-idle clock (cancel_t2s (expire_t2s clock (tick_t1s s clock t))) e

heard_t3-idle : (clock : ℕ) (d : Heard) → heard_t3 clock d Idle ≡ Idle
unfolding heard_t3 lower_t3
heard_t3-idle clock (WithoutTlv ours) = refl
heard_t3-idle clock (Acknowledged true remaining) = refl
heard_t3-idle clock (Acknowledged false remaining) = refl
heard_t3-idle clock Plain = refl

pub heard_in-idle : (s : Lengths) (clock i : ℕ) (rose : Bool) (d : Heard) (t : Timers) → t.t3 ≡ Idle → (heard_in s clock i rose d t).t3 ≡ Idle
unfolding heard_in at_t1 with_t1s with_t3
heard_in-idle s clock i rose d t e = ap (heard_t3 clock d) e ∙ heard_t3-idle clock d

pub csnp_in-idle : (i : ℕ) (n : Levels) (t : Timers) → t.t3 ≡ Idle → (csnp_in i n t).t3 ≡ Idle
unfolding csnp_in at_t1 with_t1s
csnp_in-idle i n t e = e

pub notice_t2s-idle : (n : Levels) (t : Timers) → t.t3 ≡ Idle → (notice_t2s n t).t3 ≡ Idle
unfolding notice_t2s with_t2s
notice_t2s-idle n t e = e
