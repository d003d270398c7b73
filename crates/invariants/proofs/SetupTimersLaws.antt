-- What setup's settings say of the timers stays true: which T1s there are, of each that runs its place, its expiries and its deadline, of T2 the level
-- and the deadline, of T3 the last deadline. Setup gives it, and each step of a call keeps it.
use Prim.Native.Nat.{ℕ, zero, suc, ◌+◌, ◌<◌, ◌≤◌}
use native.Mathlib.Omega.{arith}
use mathlib.Core.Path.{◌≡◌, refl, sym, ◌∙◌}
use mathlib.Core.Bool.{Bool, true, false, cond, true≢false}
use mathlib.Core.List.{List, [], ◌∷◌, map}
use lib.ListN.{get_or, set}
use lib.Dec.{leb, ltb}
use borrow.Author.Tests.{ltb-true}
use Rattle.basics.specs.Levels.{Level, First, Second, is_on, levels_with}
use Rattle.basics.specs.Mask.{t1_places}
use Rattle.basics.specs.declared.levels.Levels.{Levels}
use Rattle.basics.proofs.BoolLaws.{and_left, by-test}
use Rattle.basics.proofs.MaskLaws.{get_or-past}
use Rattle.settings.specs.Mode.{is_running}
use Rattle.settings.specs.Settings.{circuits_of, enabled_levels}
use Rattle.settings.specs.Serving.{serving, all_t1s, served_at}
use Rattle.settings.specs.declared.mode.Mode.{Mode}
use Rattle.settings.specs.declared.mode.Mode.TheVariants.{Running, Restarting, Starting}
use Rattle.settings.specs.declared.setup.Settings.{Settings}
use Rattle.timer_parts.specs.T1.{start_entry, begins, begin, begun_by, stop_t1, due, hello_due, again, tick_t1, done, satisfied, acknowledged, noted, heard_t1}
use Rattle.timer_parts.specs.T2.{t2_at, t2s_of, any_t2, start_timer, start_t2s, cancel_t2, cancel_both, expire_timer, expire_t2, expire_both, notice_t2, notice_both}
use Rattle.timer_parts.specs.T3.{lower_t3, heard_t3, expires_t3}
use Rattle.timer_parts.specs.declared.heard.Heard.{Heard}
use Rattle.timer_parts.specs.declared.heard.Heard.TheVariants.{WithoutTlv, Acknowledged, Plain}
use Rattle.timer_parts.specs.declared.t1.T1.{T1}
use Rattle.timer_parts.specs.declared.t2.T2.{T2}
use Rattle.timer_parts.specs.declared.t2.T2s.{T2s}
use Rattle.timer_parts.specs.declared.t3.T3.{T3}
use Rattle.timer_parts.specs.declared.t3.T3.TheVariants.{Idle, Runs, Expired}
use Rattle.timer_parts.proofs.T1Laws.{hello-tries}
use Rattle.timers.specs.Timers.{Timers, with_t1s, with_t2s, with_t3, no_t1, at_t1, tick_t1s, expire_t2s, waits, cancel_t2s, tick_t3, over, finish, closed, settled, to_t3, first_t1, heard_in, csnp_in, notice_t2s}
use Rattle.timers.specs.Events.{head_by, start_head, start_t1, started}
use Rattle.timers.specs.Memory.{t1_bits}
use Rattle.timers.specs.declared.head.Head.{Head}
use Rattle.control.specs.Common.{start_of}
use Rattle.invariants.specs.Invariants.{IsT1, T1Ends, T1Fits, T2Ends, t3_ends, SetupTimers}
use Rattle.invariants.proofs.NumberedLaws.{set_all, map-all}
use Rattle.std.specs.Prelude.{Option, Some, None}

-- ---- T1: no step of a T1 starts one, but where there is one

module _ (s : Settings) (clock : ℕ) where
  -- a step of the T1 in place i keeps what is said of it
  abbrev FittingAt : ℕ → (T1 → T1) → Type 0
  FittingAt i f = (x : T1) → T1Fits s clock i x → T1Fits s clock i (f x)

  abbrev Fitting : (T1 → T1) → Type 0
  Fitting f = (i : ℕ) → FittingAt i f

  stop-fits : Fitting stop_t1
  unfolding stop_t1
  stop-fits i x h e = absurd (let z : ◌≡◌ {A = ℕ} 0 1 = cc in omega arith)

  tick-fits : Fitting (tick_t1 s.lengths clock)
  unfolding tick_t1 again hello_due due
  tick-fits i x h =
      by-test (hello_due s.lengths clock x)
      (λ a. rw a (λ e.
      let k = h (and_left x.runs _ (and_left (due clock x) _ a)) in
      record { there = k.there; fewer = hello-tries s.lengths clock x a; due = omega arith }))
      (λ a. by-test (due clock x) (λ b. rw (a, b) (stop-fits i x h)) (λ b. rw (a, b) h))

  satisfied-fits : (l : Levels) → Fitting (satisfied l)
  unfolding satisfied
  satisfied-fits l i x h = by-test (done l x.entry) (λ a. rw a (stop-fits i x h)) (λ a. rw a h)

  either-fits : (i : ℕ) (b : Bool) (x y : T1) → T1Fits s clock i x → T1Fits s clock i y → T1Fits s clock i (cond b x y)
  either-fits i true x y h k = h
  either-fits i false x y h k = k

  heard-fits : (l : Levels) (d : Heard) → Fitting (heard_t1 l d)
  unfolding heard_t1 acknowledged
  heard-fits l (WithoutTlv ours) i x h = stop-fits i x h
  heard-fits l (Acknowledged up remaining) i x h = satisfied-fits l i (acknowledged x) h
  heard-fits l Plain i x h = h

  -- one that begins, where there is one
  first_fits : (mode : Mode) (rose : Bool) (i : ℕ) → IsT1 s i → 0 < s.lengths.tries → FittingAt i (first_t1 s.lengths clock mode rose)
  unfolding begun_by begin
  first_fits mode rose i there tries x h =
      either-fits i (begins _ x) (begin (clock + s.lengths.t1) x) x (λ e. record { there = there; fewer = tries; due = omega arith }) h

  csnp-fits : (l m : Levels) → Fitting (λ x. satisfied l (noted m x))
  unfolding noted
  csnp-fits l m i x h = satisfied-fits l i (noted m x) h

  -- in all places
  abbrev AllFitting : List T1 → Type 0
  AllFitting l = (i : ℕ) → T1Fits s clock i (get_or l i no_t1)

  module _ (f : T1 → T1) (l : List T1) (h : AllFitting l) where
    all_fit : Fitting f → AllFitting (map f l)
    all_fit fits = map-all no_t1 (T1Fits s clock) f fits l h

    one-fits : (i : ℕ) → FittingAt i f → AllFitting (set l i (f (get_or l i no_t1)))
    one-fits i fits = set_all no_t1 (T1Fits s clock) l i (f (get_or l i no_t1)) h (fits (get_or l i no_t1) (h i))

-- ---- T2: no step starts one or moves its deadline

abbrev MovesNone : (T2 → T2) → Type 0
MovesNone f = (x : T2) (at : ℕ) → (f x).timer ≡ Some at → x.timer ≡ Some at

cancel-none : (wait : Bool) → MovesNone (cancel_t2 wait)
unfolding cancel_t2
cancel-none true x at e = e
cancel-none false x at e = by-test x.noticed (λ a. let z = rw a at e in cc) (λ a. rw a at e)

expire-timer : (clock at : ℕ) (x : Option ℕ) → expire_timer clock x ≡ Some at → x ≡ Some at
expire-timer clock at None e = e
expire-timer clock at (Some deadline) e = by-test (leb deadline clock) (λ a. let z = rw a at e in cc) (λ a. rw a at e)

expire-none : (clock : ℕ) → MovesNone (expire_t2 clock)
unfolding expire_t2
expire-none clock x at e = expire-timer clock at x.timer e

notice-none : (on : Bool) → MovesNone (notice_t2 on)
unfolding notice_t2
notice-none on x at e = e

-- what is true of the deadlines of the T2s that run
abbrev DueAt : (Level → ℕ → Type 0) → T2s → Type 0
DueAt P t = (k : Level) (deadline : ℕ) → (t2_at k t).timer ≡ Some deadline → P k deadline

both-due : {P : Level → ℕ → Type 0} (f : Level → T2 → T2) → ((k : Level) → MovesNone (f k)) → (t : T2s) → DueAt P t
    → DueAt P (t2s_of (λ k. f k (t2_at k t)))
both-due f none t h First deadline e = h First deadline (none First t.one deadline e)
both-due f none t h Second deadline e = h Second deadline (none Second t.two deadline e)

-- ---- T3: no step starts it or raises its deadline

abbrev DueBy : ℕ → T3 → Type 0
DueBy at t = (deadline : ℕ) → t ≡ Runs deadline → deadline ≤ at

lower-due : (at low : ℕ) (t : T3) → DueBy at t → DueBy at (lower_t3 low t)
unfolding lower_t3
lower-due at low Idle h deadline e = h deadline e
lower-due at low (Runs held) h deadline e =
    let k = h held refl in
    by-test (ltb low held)
    (λ a. let z : low ≡ deadline = (let w = rw a at e in cc) in omega (arith, ltb-true low held a))
    (λ a. h deadline (rw a at e))
lower-due at low Expired h deadline e = h deadline e

heard-due : (at clock : ℕ) (d : Heard) (t : T3) → DueBy at t → DueBy at (heard_t3 clock d t)
unfolding heard_t3
heard-due at clock (WithoutTlv ours) t h = h
heard-due at clock (Acknowledged up remaining) t h = by-test up (λ a. rw a (lower-due at (clock + remaining) t h)) (λ a. rw a h)
heard-due at clock Plain t h = h

-- ---- the steps of all timers

module _ (s : Settings) (clock : ℕ) (t : Timers) (h : SetupTimers s clock t) where
  t1s-kept : (l : List T1) → AllFitting s clock l → SetupTimers s clock (with_t1s t l)
  unfolding with_t1s
  t1s-kept l k = record { serving = h.serving; t1s = k; t2s = h.t2s; t3 = h.t3 }

  t2s-kept : (both : T2s) → DueAt (T2Ends s) both → SetupTimers s clock (with_t2s t both)
  unfolding with_t2s
  t2s-kept both k = record { serving = h.serving; t1s = h.t1s; t2s = k; t3 = h.t3 }

  t3-kept : (x : T3) → DueBy (t3_ends s) x → SetupTimers s clock (with_t3 t x)
  unfolding with_t3
  t3-kept x k = record { serving = h.serving; t1s = h.t1s; t2s = h.t2s; t3 = k }

  -- all T1 stop, and T3 ends
  ended : (mode : Mode) (x : T3) → ((deadline : ℕ) → x ≡ Runs deadline → ⊥)
      → SetupTimers s clock (record { mode = mode; serving = t.serving; t1s = map stop_t1 t.t1s; t2s = t.t2s; t3 = x })
  ended mode x k =
      record {
        serving = h.serving;
        t1s = all_fit s clock stop_t1 t.t1s h.t1s (stop-fits s clock);
        t2s = h.t2s;
        t3 = λ deadline e. absurd (k deadline e);
      }

  cancel_t2s-kept : SetupTimers s clock (cancel_t2s t)
  unfolding cancel_t2s cancel_both
  cancel_t2s-kept =
      let w : Levels = levels_with (λ k. waits k t) in
      t2s-kept (cancel_both w t.t2s) (both-due (λ k. cancel_t2 (is_on k w)) (λ k. cancel-none (is_on k w)) t.t2s h.t2s)

  finish-kept : SetupTimers s clock (finish t)
  unfolding finish over
  finish-kept =
      by-test (any_t2 t.t2s) (λ a. rw a h)
      (λ a. rw a (ended Running Idle (λ deadline e. let z : ◌≡◌ {A = ℕ} 0 1 = cc in omega arith)))

  -- ---- the own step of each call

  tick_t1s-kept : SetupTimers s clock (tick_t1s s.lengths clock t)
  unfolding tick_t1s
  tick_t1s-kept = t1s-kept _ (all_fit s clock (tick_t1 s.lengths clock) t.t1s h.t1s (tick-fits s clock))

  expire_t2s-kept : SetupTimers s clock (expire_t2s clock t)
  unfolding expire_t2s expire_both
  expire_t2s-kept = t2s-kept (expire_both clock t.t2s) (both-due (λ k. expire_t2 clock) (λ k. expire-none clock) t.t2s h.t2s)

  tick_t3-kept : SetupTimers s clock (tick_t3 clock t)
  unfolding tick_t3 with_t1s with_t3
  tick_t3-kept =
      by-test (expires_t3 clock t.t2s t.t3)
      (λ a. rw a (ended t.mode Expired (λ deadline e. let z : ◌≡◌ {A = ℕ} 0 1 = cc in omega arith))) (λ a. rw a h)

  at_t1-kept : (i : ℕ) (f : T1 → T1) → FittingAt s clock i f → SetupTimers s clock (at_t1 i f t)
  unfolding at_t1
  at_t1-kept i f fits = t1s-kept _ (one-fits s clock f t.t1s h.t1s i fits)

  pub csnp_in-kept : (i : ℕ) (n : Levels) → SetupTimers s clock (csnp_in i n t)
  unfolding csnp_in
  csnp_in-kept i n = let l = served_at t.serving i in at_t1-kept i (λ x. satisfied l (noted n x)) (csnp-fits s clock l n i)

  pub notice_t2s-kept : (n : Levels) → SetupTimers s clock (notice_t2s n t)
  unfolding notice_t2s notice_both
  notice_t2s-kept n = t2s-kept (notice_both n t.t2s) (both-due (λ k. notice_t2 (is_on k n)) (λ k. notice-none (is_on k n)) t.t2s h.t2s)

module _ (s : Settings) (clock : ℕ) (t : Timers) (h : SetupTimers s clock t) where
  pub to_t3-kept : SetupTimers s clock (to_t3 s.lengths clock t)
  unfolding to_t3
  to_t3-kept =
      let a = tick_t1s-kept s clock t h in
      let b = expire_t2s-kept s clock (tick_t1s s.lengths clock t) a in
      tick_t3-kept s clock _ (cancel_t2s-kept s clock (expire_t2s clock (tick_t1s s.lengths clock t)) b)

  pub heard_in-kept : (i : ℕ) (rose : Bool) (d : Heard) → IsT1 s i → 0 < s.lengths.tries
      → SetupTimers s clock (heard_in s.lengths clock i rose d t)
  unfolding heard_in
  heard_in-kept i rose d there tries =
      t3-kept s clock _
      (at_t1-kept s clock t h i _
      (λ x k. heard-fits s clock (served_at t.serving i) d i _ (first_fits s clock t.mode rose i there tries x k)))
      (heard_t3 clock d t.t3) (heard-due (t3_ends s) clock d t.t3 h.t3)

  pub settled-kept : (f : Timers → Timers) → SetupTimers s clock (f t) → SetupTimers s clock (settled f t)
  unfolding settled closed
  settled-kept f k =
      by-test (is_running t.mode) (λ a. rw a h) (λ a. rw a (finish-kept s clock (cancel_t2s (f t)) (cancel_t2s-kept s clock (f t) k)))

  -- a later clock
  pub later-kept : (new : ℕ) → clock ≤ new → SetupTimers s new t
  later-kept new le =
      record {
        serving = h.serving;
        t1s = λ i e. let k = h.t1s i e in record { there = k.there; fewer = k.fewer; due = omega arith };
        t2s = h.t2s;
        t3 = h.t3;
      }

-- ---- setup

-- a T1 of a mask's digits runs where the digit says so
started-fits : (P : ℕ → ℕ → ℕ → Type 0) (begun : Bool) (deadline : ℕ) (bs : List Bool) → ((i : ℕ) → get_or bs i false ≡ true → P i 0 deadline) → (i : ℕ)
    → (get_or (map (start_t1 begun deadline) bs) i no_t1).runs ≡ true
    → P i (get_or (map (start_t1 begun deadline) bs) i no_t1).entry.tries (get_or (map (start_t1 begun deadline) bs) i no_t1).entry.deadline
unfolding start_t1 start_entry no_t1
started-fits P begun deadline [] k i e = absurd (let z : ◌≡◌ {A = ℕ} 0 1 = cc in omega arith)
started-fits P begun deadline (b ∷ bs) k zero e = k zero e
started-fits P begun deadline (b ∷ bs) k (suc i) e = started-fits (λ j. P (suc j)) begun deadline bs (λ j. k (suc j)) i e

-- a mask of no T1 but those that there are
abbrev OnlyT1s : Settings → ℕ → Type 0
OnlyT1s s m = (i : ℕ) → get_or (t1_bits m) i false ≡ true → IsT1 s i

no-t1 : (s : Settings) → OnlyT1s s 0
no-t1 s i e = absurd (true≢false (sym e ∙ get_or-past 0 t1_places 0 i (omega arith) (omega arith)))

module _ (s : Settings) (tries : 0 < s.lengths.tries) where
  started-on : (begun : Bool) (m : ℕ) → OnlyT1s s m → AllFitting s s.clock (map (start_t1 begun (s.clock + s.lengths.t1)) (t1_bits m))
  started-on begun m known i e =
      started-fits (T1Ends s s.clock) begun (s.clock + s.lengths.t1) (t1_bits m)
      (λ j d. record { there = known j d; fewer = tries; due = omega arith }) i e

start-timer : (on : Bool) (at deadline : ℕ) → start_timer on at ≡ Some deadline → (on ≡ true) × (deadline ≡ at)
unfolding start_timer
start-timer true at deadline e = (refl, cc)
start-timer false at deadline e = (cc, cc)

start-due : (l : Levels) (at : ℕ) → DueAt (λ k deadline. (is_on k l ≡ true) × (deadline ≡ at)) (start_t2s l at)
unfolding start_t2s
start-due l at First deadline e = start-timer l.one at deadline e
start-due l at Second deadline e = start-timer l.two at deadline e

-- no level, no T2
none-due : (P : Level → ℕ → Type 0) (at : ℕ) → DueAt P (start_t2s (record { one = false; two = false }) at)
unfolding start_t2s start_timer
none-due P at First deadline e = absurd (let z : ◌≡◌ {A = ℕ} 0 1 = cc in omega arith)
none-due P at Second deadline e = absurd (let z : ◌≡◌ {A = ℕ} 0 1 = cc in omega arith)

module _ (s : Settings) (tries : 0 < s.lengths.tries) where
  started_with : (h : Head) → start_head (start_of s) ≡ h → OnlyT1s s h.mask → DueAt (T2Ends s) h.t2s → DueBy (t3_ends s) h.t3
      → SetupTimers s s.clock (started (start_of s))
  unfolding started
  started_with h e m two three = rw e (record { serving = refl; t1s = started-on s tries _ h.mask m; t2s = two; t3 = three })

  started-by : (m : Mode) → s.mode ≡ m → SetupTimers s s.clock (started (start_of s))
  unfolding head_by
  started-by Running p =
      started_with (record { mode = Running; mask = 0; t2s = start_t2s (record { one = false; two = false }) 0; t3 = Idle }) (rw p refl)
      (no-t1 s) (none-due (T2Ends s) 0)
      (λ deadline e. absurd (let z : ◌≡◌ {A = ℕ} 0 1 = cc in omega arith))
  started-by Restarting p =
      let l = enabled_levels (circuits_of s) in
      let at = s.clock + s.lengths.t2 in
      started_with (record { mode = Restarting; mask = all_t1s (serving (circuits_of s)); t2s = start_t2s l at; t3 = Runs (s.clock + 65535) }) (rw p refl)
      (λ i e. e) (λ k deadline e. let z = start-due l at k deadline e in record { enabled = z.0; due = z.1 })
      (λ deadline e. let z : s.clock + 65535 ≡ deadline = cc in omega arith)
  started-by Starting p =
      let l = enabled_levels (circuits_of s) in
      let at = s.clock + s.lengths.t2 in
      started_with (record { mode = Starting; mask = 0; t2s = start_t2s l at; t3 = Idle }) (rw p refl)
      (no-t1 s) (λ k deadline e. let z = start-due l at k deadline e in record { enabled = z.0; due = z.1 })
      (λ deadline e. absurd (let z : ◌≡◌ {A = ℕ} 0 1 = cc in omega arith))

  pub started-kept : SetupTimers s s.clock (started (start_of s))
  started-kept = started-by s.mode refl
