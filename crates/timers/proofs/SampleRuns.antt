-- Document 01, "Sample runs", C9: a restart's calls on the timers, evaluated one after the other; a start's (document 02, W-201), and a LAN's with both levels (W-202).
-- Crate model has all of them as runs of whole frames.
use mathlib.Core.Path.{◌≡◌, refl}
use mathlib.Core.Bool.{Bool, true, false}
use Prim.Native.Nat.{ℕ}
use Rattle.basics.specs.declared.levels.Levels.{Levels}
use Rattle.basics.specs.Mask.{bits_of, any_true, any_shared, count_true, first_pair}
use Rattle.timer_parts.specs.T1.{start_entry, begins, begin, begun_by, freed_by, stop_t1, due, hello_due, again, tick_t1, done, satisfied, acknowledged, noted, heard_t1}
use Rattle.timer_parts.specs.T2.{t2_runs, spf_due, start_timer, start_t2s, any_t2, any_after, cancel_t2, cancel_both, expire_t2, expire_both, notice_t2, notice_both}
use Rattle.timer_parts.specs.T3.{lower_t3, heard_t3, expires_t3, expired_t3}
use Rattle.timer_parts.specs.declared.heard.Heard.TheVariants.{Acknowledged, Plain}
use Rattle.settings.specs.declared.lengths.Lengths.{Lengths}
use Rattle.timer_parts.specs.declared.t3.T3.TheVariants.{Idle, Runs}
use Rattle.settings.specs.Serving.{served_at}
use Rattle.settings.specs.declared.mode.Mode.{Mode}
use Rattle.settings.specs.declared.mode.Mode.TheVariants.{Restarting, Starting}
use Rattle.timers.specs.declared.events.Start.{Start}
use Rattle.timers.specs.declared.events.HeardOrders.{HeardOrders}
use Rattle.timers.specs.declared.hellos.HelloOrder.TheVariants.{Nothing, Suppress}
use Rattle.timers.specs.declared.outcome.Overload.TheVariants.{Set, Clear}
use Rattle.timers.specs.declared.outcome.TimerOutcome.TheVariants.{Goes, Ended}
use Rattle.timer_parts.specs.declared.t1.Freed.TheVariants.{Kept}
use Rattle.timers.specs.Timers.{Timers, with_t1s, with_t2s, with_t3, count_runs, lowest_runs, no_t1, at_t1, tick_t1s, expire_t2s, waits, cancel_t2s, tick_t3, over, finish, closed, settled, to_t3, ticked, heard_in, heard, csnp_in, csnp_noticed, notice_t2s, database_noticed}
use Rattle.timers.specs.Hellos.{no_hellos, ordering, begin_hello}
use Rattle.timers.specs.Outcome.{overload_of, overload_due, outcome_with, outcome_of, ordered, tick_hellos, overloaded, freed_with, heard_orders}
use Rattle.timers.specs.Events.{head_by, start_t1, start_hellos, started}
use Rattle.std.specs.Prelude.{Some}

abbrev lengths : Lengths
lengths = record { t1 = 60; t2 = 60; tries = 3 }

abbrev first : Levels
first = record { one = true; two = false }

abbrev second : Levels
second = record { one = false; two = true }

-- one circuit with level 1, from clock 0
abbrev from : Mode → Start
from mode = record { mode = mode; lengths = lengths; clock = 0; serving = record { one = 1; two = 0 }; levels = first }

abbrev setup : Timers
setup = started (from Restarting)

-- a tick to the clock, and then an acknowledgement: whether it shows us Up, and its Remaining Time
abbrev answered : ℕ → Bool → ℕ → Timers → Timers
answered clock up remaining t = heard lengths clock 0 false (Acknowledged up remaining) (ticked lengths clock t)

abbrev none : Levels
none = record { one = false; two = false }

abbrev at5 : Timers
at5 = answered 5 true 40 setup

abbrev at10 : Timers
at10 = answered 10 true 50 at5

abbrev at12 : Timers
at12 = answered 12 false 20 at10

-- at 5 RA 40, Up; at 10 RA 50, Up; at 12 RA 20, not Up: T3 at 45, 45, 45
pub c9 : (at5.t3 ≡ Runs 45) × (at10.t3 ≡ Runs 45) × (at12.t3 ≡ Runs 45)
unfolding bits_of any_shared served_at start_entry stop_t1 due hello_due again tick_t1 done satisfied acknowledged heard_t1 start_timer start_t2s any_t2 any_after cancel_t2 cancel_both expire_t2 expire_both lower_t3 heard_t3 expires_t3 with_t1s with_t2s with_t3 no_t1 at_t1 tick_t1s expire_t2s waits cancel_t2s tick_t3 over finish closed settled to_t3 heard_in begun_by begins head_by start_t1 start_hellos started
c9 = (refl, refl, refl)

-- ---- a start

-- a frame whose record becomes UP, at clock 2
abbrev rises : Timers → Timers
rises t = heard lengths 2 0 true Plain t

abbrev orders : ℕ → Timers → HeardOrders
orders clock t = heard_orders lengths clock 0 true Plain t

abbrev begun : Timers
begun = rises (started (from Starting))

-- No hello at setup, no T3. The first record that becomes UP orders a hello with SA and overload, the second overload alone; T1's expiry at 62 orders
-- a hello with RR and SA; T2 ends at 60, and overload is ordered clear.
pub start : (start_hellos (from Starting) ≡ no_hellos) × ((started (from Starting)).t3 ≡ Idle)
    × (orders 2 (started (from Starting)) ≡ record { outcome = Goes none Set; freed = Kept; hello = Suppress })
    × (orders 3 begun ≡ record { outcome = Goes none Set; freed = Kept; hello = Nothing })
    × ((tick_hellos (record { t1 = 60; t2 = 90; tries = 3 }) 62 begun).flags ≡ 5)
    × (ordered (to_t3 lengths 60) begun ≡ Ended first Clear)
unfolding any_true any_shared bits_of served_at start_entry begins begin begun_by stop_t1 due hello_due again tick_t1 done satisfied acknowledged heard_t1 freed_by start_timer start_t2s any_t2 any_after cancel_t2 cancel_both expire_t2 expire_both spf_due lower_t3 heard_t3 expires_t3 expired_t3 with_t1s with_t2s with_t3 no_t1 at_t1 tick_t1s expire_t2s waits cancel_t2s tick_t3 over finish closed settled to_t3 heard_in head_by start_t1 start_hellos started ordering begin_hello overload_of overload_due outcome_with outcome_of ordered tick_hellos overloaded freed_with heard_orders
start = (refl, refl, refl, refl, refl, refl)

-- ---- a LAN with both levels

-- level 1's T1 is in place 0, level 2's in place 1; level 1's acknowledgement and CSNP set stop its own
abbrev of_level1 : Timers
of_level1 =
    csnp_noticed 0 first
    (heard lengths 5 0 false (Acknowledged true 40)
    (started (record { mode = Restarting; lengths = lengths; clock = 0; serving = record { one = 1; two = 2 }; levels = record { one = true; two = true } })))

-- level 2's T2 waits for its own T1; level 1's is cancelled though that T1 runs
pub levels : (count_runs of_level1.t1s ≡ 1) × (lowest_runs of_level1.t1s ≡ Some 1) × (t2_runs (database_noticed second of_level1).t2s.two ≡ true)
    × (t2_runs (database_noticed first of_level1).t2s.one ≡ false)
unfolding any_shared count_true first_pair bits_of served_at start_entry begins begin begun_by stop_t1 due hello_due again tick_t1 done satisfied acknowledged noted heard_t1 start_timer start_t2s any_t2 any_after cancel_t2 cancel_both notice_t2 notice_both lower_t3 heard_t3 with_t1s with_t2s with_t3 count_runs lowest_runs no_t1 at_t1 waits cancel_t2s over finish closed settled heard_in csnp_in notice_t2s head_by start_t1 start_hellos started
levels = (refl, refl, refl, refl)
