-- How a call ends, and what it orders, of the timers before it, after its own step, and after all of it (document 01, "Timers
-- while Restarting"; document 02, W-201 and W-202).
use Rattle.std.specs.Prelude.{ℕ, Bool, true, false, cond, not, ◌&&◌, ◌||◌, map, get_or}
use Rattle.basics.specs.declared.levels.Levels.{Levels}
use Rattle.timer_parts.specs.T1.{hello_due, freed_by}
use Rattle.timer_parts.specs.T2.{spf_due}
use Rattle.timer_parts.specs.T3.{expired_t3}
use Rattle.timer_parts.specs.declared.heard.Heard.{Heard}
use Rattle.settings.specs.declared.lengths.Lengths.{Lengths}
use Rattle.settings.specs.declared.mode.Mode.{Mode}
use Rattle.timer_parts.specs.declared.t1.Freed.{Freed}
use Rattle.timer_parts.specs.declared.t1.Freed.TheVariants.{Kept}
use Rattle.timer_parts.specs.declared.t1.T1.{T1}
use Rattle.timers.specs.declared.outcome.Overload.{Overload}
use Rattle.timers.specs.declared.outcome.Overload.TheVariants.{Quiet, Set, Clear, Both}
use Rattle.timers.specs.declared.outcome.TimerOutcome.{TimerOutcome}
use Rattle.timers.specs.declared.outcome.TimerOutcome.TheVariants.{Idle, Goes, Ended}
use Rattle.timers.specs.declared.events.HeardOrders.{HeardOrders}
use Rattle.settings.specs.Mode.{is_running, is_restarting, is_starting}
use Rattle.timers.specs.Hellos.{Hellos, ordering, no_hellos, again_flags, begin_hello}
use Rattle.timers.specs.Timers.{Timers, closed, no_t1, up_in, first_t1, heard_in}

unfoldable pub overload_of : Bool → Bool → Overload
overload_of false false = Quiet
overload_of true false = Set
overload_of false true = Clear
overload_of true true = Both

-- overload is ordered where T3 expired in the call's own step, and "had it expired, overload is ordered clear" at the mode's end; document 02,
-- W-201: "the last T2 done orders it clear", in the mode Starting whether or not it was ordered set (house)
unfoldable pub overload_due : Timers → Timers → Timers → Overload
overload_due before mid after =
    overload_of (not (expired_t3 before.t3) && expired_t3 mid.t3)
    (is_running after.mode && (expired_t3 mid.t3 || is_starting before.mode))

unfoldable pub outcome_with : Bool → Levels → Overload → TimerOutcome
outcome_with ended spf overload = cond ended (Ended spf overload) (Goes spf overload)

unfoldable pub outcome_of : Timers → Timers → Timers → TimerOutcome
outcome_of before mid after = outcome_with (is_running after.mode) (spf_due before.t2s after.t2s) (overload_due before mid after)

-- of a call whose own step is f
unfoldable pub ordered : (Timers → Timers) → Timers → TimerOutcome
ordered f t = cond (is_running t.mode) Idle (outcome_of t (f t) (closed f t))

-- the hellos that a tick orders
unfoldable pub tick_hellos : Lengths → ℕ → Timers → Hellos
tick_hellos s clock t = cond (is_running t.mode) no_hellos (ordering (again_flags t.mode) (map (hello_due s clock) t.t1s))

-- ---- an accepted hello

-- document 02, W-201: "each record becoming UP orders the zeroth LSP with overload"; where it is ordered clear too, it is set first
abbrev pub also_set : Overload → Overload
also_set Quiet = Set
also_set Set = Set
also_set Clear = Both
also_set Both = Both

unfoldable pub overloaded : Bool → TimerOutcome → TimerOutcome
overloaded up Idle = Idle
overloaded up (Goes spf overload) = Goes spf (cond up (also_set overload) overload)
overloaded up (Ended spf overload) = Ended spf (cond up (also_set overload) overload)

-- whether it stopped its T1, here x, for want of a Restart TLV
unfoldable pub freed_with : Lengths → ℕ → Mode → Bool → Heard → T1 → Freed
freed_with s clock mode rose d x = freed_by (is_restarting mode) d (first_t1 s clock mode rose x)

-- all that it orders of the timers; the T1 in place i begins, is kept or is stopped
unfoldable pub heard_orders : Lengths → ℕ → ℕ → Bool → Heard → Timers → HeardOrders
heard_orders s clock i rose d t =
    record {
      outcome = overloaded (up_in t.mode rose) (ordered (heard_in s clock i rose d) t);
      freed = cond (is_running t.mode) Kept (freed_with s clock t.mode rose d (get_or t.t1s i no_t1));
      hello = begin_hello (up_in t.mode rose) (get_or t.t1s i no_t1);
    }
