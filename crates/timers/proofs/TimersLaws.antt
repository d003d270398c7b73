-- The laws of the calls on the timers. The first part is for the gateway: while the mode is Running no call changes a timer or
-- orders anything. The rest joins the steps of the code to the definitions.
use Prim.Native.Nat.{ℕ, ◌+◌, ◌<◌}
use mathlib.Core.Path.{◌≡◌, refl, sym, ap, ◌∙◌}
use mathlib.Core.Bool.{Bool, true, false, cond, true≢false}
use mathlib.Core.List.{List, map}
use lib.ListN.{set, get_or}
use Rattle.basics.specs.declared.levels.Levels.{Levels}
use Rattle.basics.specs.Levels.{Level}
use Rattle.basics.specs.Mask.{place_bits, any_shared, count_true, first_pair}
use Rattle.restart_tlv.specs.Flags.{RR}
use Rattle.timer_parts.specs.T1.{start_entry, begins, tick_t1, hello_due, satisfied, noted, heard_t1}
use Rattle.timer_parts.specs.T3.{heard_t3}
use Rattle.timer_parts.specs.declared.heard.Heard.{Heard}
use Rattle.settings.specs.declared.lengths.Lengths.{Lengths}
use Rattle.settings.specs.Serving.{serves_of, served_at}
use Rattle.settings.specs.declared.serving.Serving.{Serving}
use Rattle.timer_parts.specs.declared.t1.Entry.{Entry}
use Rattle.timer_parts.specs.declared.t1.T1.{T1}
use Rattle.timer_parts.specs.declared.t1.Freed.{Freed}
use Rattle.timer_parts.specs.declared.t1.Freed.TheVariants.{Kept}
use Rattle.timer_parts.specs.declared.t3.T3.{T3}
use Rattle.settings.specs.declared.mode.Mode.{Mode}
use Rattle.settings.specs.declared.mode.Mode.TheVariants.{Running, Restarting, Starting}
use Rattle.timers.specs.declared.head.Head.{Head}
use Rattle.timers.specs.declared.events.Start.{Start}
use Rattle.timers.specs.declared.hellos.HelloOrder.{HelloOrder}
use Rattle.timers.specs.declared.hellos.HelloOrder.TheVariants.{Nothing}
use Rattle.timers.specs.declared.outcome.TimerOutcome.{TimerOutcome}
use Rattle.timers.specs.declared.outcome.TimerOutcome.TheVariants.{Idle, Goes, Ended}
use Rattle.timers.specs.declared.outcome.Overload.{Overload}
use Rattle.timers.specs.Timers.{Timers, with_t1s, with_t3, count_runs, lowest_runs, no_t1, at_t1, tick_t1s, expire_t2s, waits, cancel_t2s, tick_t3, finish, closed, settled, to_t3, ticked, heard_in, heard, csnp_in, csnp_noticed, notice_t2s, database_noticed, up_in, first_t1}
use Rattle.settings.specs.Mode.{is_running, is_restarting, is_starting}
use Rattle.timers.specs.Hellos.{Hellos, hello_bits, ordering, no_hellos, again_flags, begin_hello}
use Rattle.timers.specs.Memory.{t1_count, joined, timers_of, t1_bits}
use Rattle.timers.specs.Outcome.{outcome_with, outcome_of, ordered, tick_hellos, overloaded, freed_with, heard_orders}
use Rattle.timers.specs.Events.{start_head, start_hellos, started, Starts, Closes, Ticks, Hears}
use Rattle.timers.proofs.T1sLaws.{runs_of-joined, joined-started}

-- ---- for the gateway

not-starting : (m : Mode) → is_running m ≡ true → is_starting m ≡ false
not-starting Running e = refl
not-starting Restarting e = cc
not-starting Starting e = cc

-- by the mode
module _ (t : Timers) (on : is_running t.mode ≡ false) where
  pub settled_on : (f : Timers → Timers) → closed f t ≡ settled f t
  unfolding settled
  settled_on f = rw on

  pub ordered-on : (f : Timers → Timers) → outcome_of t (f t) (closed f t) ≡ ordered f t
  unfolding ordered
  ordered-on f = rw on

  pub hellos-on : (s : Lengths) (clock : ℕ) → ordering (again_flags t.mode) (map (hello_due s clock) t.t1s) ≡ tick_hellos s clock t
  unfolding tick_hellos
  hellos-on s clock = rw on

  -- what an accepted hello orders, part by part
  pub heard-on : (s : Lengths) (clock i : ℕ) (rose : Bool) (d : Heard) (o : TimerOutcome) (r : Freed) (h : HelloOrder)
      → o ≡ overloaded (up_in t.mode rose) (outcome_of t (heard_in s clock i rose d t) (closed (heard_in s clock i rose d) t))
      → r ≡ freed_with s clock t.mode rose d (get_or t.t1s i no_t1) → h ≡ begin_hello (up_in t.mode rose) (get_or t.t1s i no_t1)
      → record { outcome = o; freed = r; hello = h } ≡ heard_orders s clock i rose d t
  unfolding heard_orders
  heard-on s clock i rose d o r h p q e =
      let f = heard_in s clock i rose d in
      rw (p, q, e, sym (ordered-on f), on)

module _ (t : Timers) (off : is_running t.mode ≡ true) where
  pub settled-off : (f : Timers → Timers) → t ≡ settled f t
  unfolding settled
  settled-off f = rw off

  pub ordered-off : (f : Timers → Timers) → Idle ≡ ordered f t
  unfolding ordered
  ordered-off f = rw off

  pub hellos-off : (s : Lengths) (clock : ℕ) → no_hellos ≡ tick_hellos s clock t
  unfolding tick_hellos
  hellos-off s clock = rw off

  pub heard-off : (s : Lengths) (clock i : ℕ) (rose : Bool) (d : Heard)
      → record { outcome = Idle; freed = Kept; hello = Nothing } ≡ heard_orders s clock i rose d t
  unfolding heard_orders overloaded begin_hello begins
  heard-off s clock i rose d = rw (sym (ordered-off (heard_in s clock i rose d)), off, not-starting t.mode off)

module _ (t : Timers) (run : t.mode ≡ Running) where
  -- any call, by its own step
  pub settled-running : (f : Timers → Timers) → (settled f t ≡ t) × (ordered f t ≡ Idle)
  settled-running f = (sym (settled-off t (ap is_running run) f), sym (ordered-off t (ap is_running run) f))

  pub ticked-running : (s : Lengths) (clock : ℕ)
      → (ticked s clock t ≡ t) × (ordered (to_t3 s clock) t ≡ Idle) × (tick_hellos s clock t ≡ no_hellos)
  ticked-running s clock =
      let k = settled-running (to_t3 s clock) in
      (k.0, k.1, sym (hellos-off t (ap is_running run) s clock))

  pub heard-running : (s : Lengths) (clock i : ℕ) (rose : Bool) (d : Heard)
      → (heard s clock i rose d t ≡ t) × (heard_orders s clock i rose d t ≡ record { outcome = Idle; freed = Kept; hello = Nothing })
  heard-running s clock i rose d =
      ((settled-running (heard_in s clock i rose d)).0, sym (heard-off t (ap is_running run) s clock i rose d))

  pub csnp-running : (i : ℕ) (n : Levels) → (csnp_noticed i n t ≡ t) × (ordered (csnp_in i n) t ≡ Idle)
  csnp-running i n = settled-running (csnp_in i n)

  pub database-running : (n : Levels) → (database_noticed n t ≡ t) × (ordered (notice_t2s n) t ≡ Idle)
  database-running n = settled-running (notice_t2s n)

  -- the mode stays
  pub mode-running : (f : Timers → Timers) → (settled f t).mode ≡ Running
  mode-running f = ap (λ (u : Timers). u.mode) (settled-running f).0 ∙ run

-- the outcome is Idle only where the mode was Running
is_idle : TimerOutcome → Bool
is_idle Idle = true
is_idle (Goes spf overload) = false
is_idle (Ended spf overload) = false

not-idle : (b : Bool) (spf : Levels) (overload : Overload) → is_idle (outcome_with b spf overload) ≡ false
unfolding outcome_with is_idle
not-idle true spf overload = refl
not-idle false spf overload = refl

by_mode : (m : Mode) (o : TimerOutcome) → is_idle o ≡ false → cond (is_running m) Idle o ≡ Idle → m ≡ Running
unfolding is_idle
by_mode Running o h e = refl
by_mode Restarting o h e = absurd (true≢false (sym (ap is_idle e) ∙ h))
by_mode Starting o h e = absurd (true≢false (sym (ap is_idle e) ∙ h))

pub idle-running : (f : Timers → Timers) (t : Timers) → ordered f t ≡ Idle → t.mode ≡ Running
unfolding ordered outcome_of
idle-running f t h = by_mode t.mode (outcome_of t (f t) (closed f t)) (not-idle _ _ _) h

-- ---- the steps of a call

pub closes : (f : Timers → Timers) (t mid after : Timers) (o : TimerOutcome) → mid ≡ f t
    → (after ≡ finish (cancel_t2s mid)) × (o ≡ outcome_of t mid (finish (cancel_t2s mid))) → Closes f t after o
unfolding closed
closes f t mid after o p q =
    record {
      timers = q.0 ∙ ap (λ (x : Timers). finish (cancel_t2s x)) p;
      outcome = q.1 ∙ ap (λ (x : Timers). outcome_of t x (finish (cancel_t2s x))) p;
    }

pub ticks : (v : Serving) (s : Lengths) (clock : ℕ) (h : Head) (e : ℕ → Entry) (after : Timers) (o : TimerOutcome) (hs : Hellos)
    → Closes (to_t3 s clock) (timers_of v h e) after o → hs ≡ ordering (again_flags h.mode) (map (hello_due s clock) (joined (t1_bits h.mask) e))
    → Ticks s clock (timers_of v h e) after o hs
unfolding timers_of
ticks v s clock h e after o hs c d = record { closes = c; hellos = d }

pub hears : (v : Serving) (s : Lengths) (clock i : ℕ) (rose : Bool) (d : Heard) (h : Head) (e : ℕ → Entry) (after : Timers) (o₀ o : TimerOutcome)
    (r : Freed) (x : HelloOrder) → is_running h.mode ≡ false → Closes (heard_in s clock i rose d) (timers_of v h e) after o₀
    → o ≡ overloaded (up_in h.mode rose) o₀ → r ≡ freed_with s clock h.mode rose d (get_or (joined (t1_bits h.mask) e) i no_t1)
    → x ≡ begin_hello (up_in h.mode rose) (get_or (joined (t1_bits h.mask) e) i no_t1)
    → Hears s clock i rose d (timers_of v h e) after (record { outcome = o; freed = r; hello = x })
unfolding timers_of
hears v s clock i rose d h e after o₀ o r x on c p q k =
    record {
      timers = c.timers;
      orders = heard-on (timers_of v h e) on s clock i rose d o r x (p ∙ ap (overloaded (up_in h.mode rose)) c.outcome) q k;
    }

pub count_of : (v : Serving) (h : Head) (e : ℕ → Entry) → count_true (t1_bits h.mask) ≡ count_runs (timers_of v h e).t1s
unfolding timers_of count_runs
count_of v h e = ap count_true (sym (runs_of-joined (t1_bits h.mask) e))

pub lowest-of : (v : Serving) (h : Head) (e : ℕ → Entry) → first_pair (t1_bits h.mask) 1 ≡ lowest_runs (timers_of v h e).t1s
unfolding timers_of lowest_runs
lowest-of v h e = ap (λ (l : List Bool). first_pair l 1) (sym (runs_of-joined (t1_bits h.mask) e))

pub waits-of : (k : Level) (v : Serving) (h : Head) (e : ℕ → Entry) → any_shared (place_bits (serves_of k v)) (t1_bits h.mask) ≡ waits k (timers_of v h e)
unfolding timers_of waits
waits-of k v h e = ap (any_shared (place_bits (serves_of k v))) (sym (runs_of-joined (t1_bits h.mask) e))

pub t1-of : (v : Serving) (h : Head) (e : ℕ → Entry) (i : ℕ) → get_or (joined (t1_bits h.mask) e) i no_t1 ≡ get_or (timers_of v h e).t1s i no_t1
unfolding timers_of
t1-of v h e i = refl

-- all T1s changed, then the head's steps
pub to_t3-is : (v : Serving) (s : Lengths) (clock m : ℕ) (h : Head) (e f : ℕ → Entry) (u r : Timers)
    → joined (t1_bits m) f ≡ map (tick_t1 s clock) (joined (t1_bits h.mask) e) → u ≡ with_t1s (timers_of v h f) (joined (t1_bits m) f)
    → r ≡ tick_t3 clock (cancel_t2s (expire_t2s clock u)) → r ≡ to_t3 s clock (timers_of v h e)
unfolding to_t3 tick_t1s with_t1s timers_of
to_t3-is v s clock m h e f u r p q k = k ∙ ap (λ (x : Timers). tick_t3 clock (cancel_t2s (expire_t2s clock x))) (q ∙ rw p)

-- one T1 changed
pub t1-stored : (v : Serving) (h : Head) (m i : ℕ) (e f : ℕ → Entry) (g : T1 → T1) (t : T1) → t ≡ g (get_or (joined (t1_bits h.mask) e) i no_t1)
    → joined (t1_bits m) f ≡ set (joined (t1_bits h.mask) e) i t → with_t1s (timers_of v h f) (joined (t1_bits m) f) ≡ at_t1 i g (timers_of v h e)
unfolding with_t1s timers_of at_t1
t1-stored v h m i e f g t p q = rw (q, p)

pub heard_in-is : (v : Serving) (s : Lengths) (clock i : ℕ) (rose : Bool) (d : Heard) (h : Head) (e : ℕ → Entry) (u : Timers) (x : T3)
    → u ≡ at_t1 i (λ t. heard_t1 (served_at v i) d (first_t1 s clock h.mode rose t)) (timers_of v h e) → x ≡ heard_t3 clock d h.t3
    → with_t3 u x ≡ heard_in s clock i rose d (timers_of v h e)
unfolding heard_in timers_of
heard_in-is v s clock i rose d h e u x p q = rw (p, q)

pub csnp_in-is : (v : Serving) (i : ℕ) (n : Levels) (h : Head) (e : ℕ → Entry)
    → at_t1 i (λ x. satisfied (served_at v i) (noted n x)) (timers_of v h e) ≡ csnp_in i n (timers_of v h e)
unfolding csnp_in timers_of
csnp_in-is v i n h e = refl

pub starts : (s : Start) (h : Head) (e : ℕ → Entry) (hs : Hellos) → h ≡ start_head s
    → ((j : ℕ) → j < t1_count → e j ≡ start_entry (is_restarting s.mode) (s.clock + s.lengths.t1)) → hs ≡ ordering RR (hello_bits h.mask)
    → Starts s (timers_of s.serving h e) hs
unfolding timers_of started start_hellos
starts s h e hs p k q =
    record {
      timers = rw (p, joined-started (is_restarting s.mode) (s.clock + s.lengths.t1) (start_head s).mask e k);
      hellos = q ∙ ap (λ (x : Head). ordering RR (hello_bits x.mask)) p;
    }
