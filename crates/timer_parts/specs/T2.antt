-- The T2 of each level (document 01, "Timers while Restarting"; RFC 8706, 3.1).
use Rattle.std.specs.Prelude.{ℕ, Bool, true, false, cond, not, ◌&&◌, ◌||◌, leb, ltb, Option, Some, None}
use Rattle.basics.specs.declared.levels.Levels.{Levels}
use Rattle.basics.specs.Levels.{Level, First, Second, is_on, levels_with, some_level}
use Rattle.timer_parts.specs.declared.t2.T2.{T2}
use Rattle.timer_parts.specs.declared.t2.T2s.{T2s}

-- the T2 of a level, and all of them made level by level
abbrev pub t2_at : Level → T2s → T2
t2_at First t = t.one
t2_at Second t = t.two

abbrev pub t2s_of : (Level → T2) → T2s
t2s_of f = record { one = f First; two = f Second }

-- an enabled level's T2 runs from setup on
unfoldable pub start_timer : Bool → ℕ → Option ℕ
start_timer on at = cond on (Some at) None

unfoldable pub start_t2s : Levels → ℕ → T2s
start_t2s l at = t2s_of (λ k. record { timer = start_timer (is_on k l) at; noticed = false })

-- it runs; it runs with a deadline after `at`
abbrev pub timer_runs : Option ℕ → Bool
timer_runs None = false
timer_runs (Some deadline) = true

abbrev pub timer_after : ℕ → Option ℕ → Bool
timer_after at None = false
timer_after at (Some deadline) = ltb at deadline

abbrev pub t2_runs : T2 → Bool
t2_runs t = timer_runs t.timer

abbrev pub t2_after : ℕ → T2 → Bool
t2_after at t = timer_after at t.timer

-- some T2 does
unfoldable pub any_t2 : T2s → Bool
any_t2 t = some_level (λ k. t2_runs (t2_at k t))

unfoldable pub any_after : ℕ → T2s → Bool
any_after at t = some_level (λ k. t2_after at (t2_at k t))

-- "T2 of a level is cancelled when its database notice came and no T1 runs ..": wait says that one does for which it waits
unfoldable pub cancel_t2 : Bool → T2 → T2
cancel_t2 wait t = cond wait t (cond t.noticed (record { timer = None; noticed = t.noticed }) t)

-- where the levels of waits wait for a T1
unfoldable pub cancel_both : Levels → T2s → T2s
cancel_both waits t = t2s_of (λ k. cancel_t2 (is_on k waits) (t2_at k t))

-- ".. and expires at its deadline .."
abbrev pub expire_timer : ℕ → Option ℕ → Option ℕ
expire_timer clock None = None
expire_timer clock (Some deadline) = cond (leb deadline clock) None (Some deadline)

unfoldable pub expire_t2 : ℕ → T2 → T2
expire_t2 clock t = record { timer = expire_timer clock t.timer; noticed = t.noticed }

unfoldable pub expire_both : ℕ → T2s → T2s
expire_both clock t = t2s_of (λ k. expire_t2 clock (t2_at k t))

-- the databases of the levels n are complete; the notice is kept
unfoldable pub notice_t2 : Bool → T2 → T2
notice_t2 on t = record { timer = t.timer; noticed = on || t.noticed }

unfoldable pub notice_both : Levels → T2s → T2s
notice_both n t = t2s_of (λ k. notice_t2 (is_on k n) (t2_at k t))

-- ".. either orders that level's SPF": its T2 ran before, and runs no more
abbrev pub over : T2 → T2 → Bool
over before after = t2_runs before && not (t2_runs after)

unfoldable pub spf_due : T2s → T2s → Levels
spf_due before after = levels_with (λ k. over (t2_at k before) (t2_at k after))
