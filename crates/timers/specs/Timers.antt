-- All timers of a gateway that restarts or starts, and what each call does to them (document 01, "Timers while Restarting"; document 02,
-- W-201 and W-202; RFC 8706, 3.1 and 3.3). A step is a function from Timers to Timers; what a call orders is read off the timers before and after
-- (Outcome). i is the place of a T1.
use Rattle.std.specs.Prelude.{ℕ, ◌+◌, Bool, false, cond, ◌&&◌, List, map, get_or, set, Option}
use Rattle.settings.specs.Mode.{is_running, is_starting}
use Rattle.basics.specs.declared.levels.Levels.{Levels}
use Rattle.basics.specs.Levels.{Level, levels_with}
use Rattle.timer_parts.specs.T1.{start_entry, begun_by, stop_t1, tick_t1, satisfied, noted, heard_t1}
use Rattle.timer_parts.specs.T2.{any_t2, expire_both, cancel_both, notice_both}
use Rattle.timer_parts.specs.T3.{expires_t3, heard_t3}
use Rattle.basics.specs.Mask.{place_bits, any_true, any_shared, count_true, first_pair}
use Rattle.settings.specs.Serving.{serves_of, served_at}
use Rattle.settings.specs.declared.serving.Serving.{Serving}
use Rattle.timer_parts.specs.declared.heard.Heard.{Heard}
use Rattle.settings.specs.declared.lengths.Lengths.{Lengths}
use Rattle.timer_parts.specs.declared.t1.T1.{T1}
use Rattle.timer_parts.specs.declared.t2.T2s.{T2s}
use Rattle.timer_parts.specs.declared.t3.T3.{T3}
use Rattle.timer_parts.specs.declared.t3.T3.TheVariants.{Idle, Expired}
use Rattle.settings.specs.declared.mode.Mode.{Mode}
use Rattle.settings.specs.declared.mode.Mode.TheVariants.{Running}

-- Which T1s there are and the levels that each serves, as setup gave them. The T1s are a list over the places, two for each circuit; one that is not
-- there never runs.
pub record Timers : Type 0 where
  pub mode : Mode
  pub serving : Serving
  pub t1s : List T1
  pub t2s : T2s
  pub t3 : T3

unfoldable pub with_t1s : Timers → List T1 → Timers
with_t1s t l = record { mode = t.mode; serving = t.serving; t1s = l; t2s = t.t2s; t3 = t.t3 }

unfoldable pub with_t2s : Timers → T2s → Timers
with_t2s t both = record { mode = t.mode; serving = t.serving; t1s = t.t1s; t2s = both; t3 = t.t3 }

unfoldable pub with_t3 : Timers → T3 → Timers
with_t3 t x = record { mode = t.mode; serving = t.serving; t1s = t.t1s; t2s = t.t2s; t3 = x }

-- ---- the T1s

-- which of them run, and whether one does
abbrev pub runs_of : List T1 → List Bool
runs_of ts = map (λ t. t.runs) ts

unfoldable pub any_runs : List T1 → Bool
any_runs ts = any_true (runs_of ts)

-- document 02, W-202: "The count of waiting circuits becomes a count of waiting T1s, the lowest still a circuit."
unfoldable pub count_runs : List T1 → ℕ
count_runs ts = count_true (runs_of ts)

unfoldable pub lowest_runs : List T1 → Option ℕ
lowest_runs ts = first_pair (runs_of ts) 1

-- what stands past the list's end
unfoldable pub no_t1 : T1
no_t1 = record { runs = false; entry = start_entry false 0 }

-- the T1 in place i changes
unfoldable pub at_t1 : ℕ → (T1 → T1) → Timers → Timers
at_t1 i f t = with_t1s t (set t.t1s i (f (get_or t.t1s i no_t1)))

-- ---- steps

unfoldable pub tick_t1s : Lengths → ℕ → Timers → Timers
tick_t1s s clock t = with_t1s t (map (tick_t1 s clock) t.t1s)

unfoldable pub expire_t2s : ℕ → Timers → Timers
expire_t2s clock t = with_t2s t (expire_both clock t.t2s)

-- document 02, W-202: "A level's T2 waits only for that level's LAN T1s and those of P2P circuits with that level."
unfoldable pub waits : Level → Timers → Bool
waits k t = any_shared (place_bits (serves_of k t.serving)) (runs_of t.t1s)

unfoldable pub cancel_t2s : Timers → Timers
cancel_t2s t = with_t2s t (cancel_both (levels_with (λ k. waits k t)) t.t2s)

-- ".. overload, all T1 stop, T2 goes on."
unfoldable pub tick_t3 : ℕ → Timers → Timers
tick_t3 clock t = cond (expires_t3 clock t.t2s t.t3) (with_t3 (with_t1s t (map stop_t1 t.t1s)) Expired) t

-- "When no T2 runs, T3 is cancelled .., all T1 stop (house) and the mode is Running." House, over RFC 8706, 3.3.1 and 3.3.2, which end T1
-- by other conditions alone.
unfoldable pub over : Timers → Timers
over t = record { mode = Running; serving = t.serving; t1s = map stop_t1 t.t1s; t2s = t.t2s; t3 = Idle }

unfoldable pub finish : Timers → Timers
finish t = cond (any_t2 t.t2s) t (over t)

-- ---- calls

-- Every call does its own step f, and then T2 cancelling and the end of the mode, at once. While the mode is Running nothing
-- changes.
unfoldable pub closed : (Timers → Timers) → Timers → Timers
closed f t = finish (cancel_t2s (f t))

unfoldable pub settled : (Timers → Timers) → Timers → Timers
settled f t = cond (is_running t.mode) t (closed f t)

-- A tick: "A tick works in this order: records, T1, T2 expiry, T2 cancelling, T3, T2 cancelling again." The last is that of every
-- call; the records are the caller's.
unfoldable pub to_t3 : Lengths → ℕ → Timers → Timers
to_t3 s clock t = tick_t3 clock (cancel_t2s (expire_t2s clock (tick_t1s s clock t)))

abbrev pub ticked : Lengths → ℕ → Timers → Timers
ticked s clock t = settled (to_t3 s clock) t

-- Document 02, W-201: a record becomes UP while the mode is Starting; rose says that the frame's record becomes UP.
abbrev pub up_in : Mode → Bool → Bool
up_in mode rose = is_starting mode && rose

-- T1 begins before the frame is heard: "Acknowledgements and the P2P frame without the TLV count from that first UP frame on"
abbrev pub first_t1 : Lengths → ℕ → Mode → Bool → T1 → T1
first_t1 s clock mode rose x = begun_by (up_in mode rose) (clock + s.t1) x

-- an accepted hello to the T1 in place i: "a T1 stops by its own level's acknowledgement and CSNP set"
unfoldable pub heard_in : Lengths → ℕ → ℕ → Bool → Heard → Timers → Timers
heard_in s clock i rose d t =
    with_t3 (at_t1 i (λ x. heard_t1 (served_at t.serving i) d (first_t1 s clock t.mode rose x)) t) (heard_t3 clock d t.t3)

abbrev pub heard : Lengths → ℕ → ℕ → Bool → Heard → Timers → Timers
heard s clock i rose d t = settled (heard_in s clock i rose d) t

-- the CSNP sets of the levels n are complete, for the T1 in place i
unfoldable pub csnp_in : ℕ → Levels → Timers → Timers
csnp_in i n t = at_t1 i (λ x. satisfied (served_at t.serving i) (noted n x)) t

abbrev pub csnp_noticed : ℕ → Levels → Timers → Timers
csnp_noticed i n t = settled (csnp_in i n) t

-- the databases of the levels n are complete
unfoldable pub notice_t2s : Levels → Timers → Timers
notice_t2s n t = with_t2s t (notice_both n t.t2s)

abbrev pub database_noticed : Levels → Timers → Timers
database_noticed n t = settled (notice_t2s n) t
