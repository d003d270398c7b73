-- T3 (document 01, "Timers while Restarting"; RFC 8706, 3.1 and 3.3.1).
use Rattle.std.specs.Prelude.{ℕ, ◌+◌, Bool, true, false, cond, ◌&&◌, leb, ltb}
use Rattle.timer_parts.specs.T2.{any_after}
use Rattle.timer_parts.specs.declared.heard.Heard.{Heard}
use Rattle.timer_parts.specs.declared.heard.Heard.TheVariants.{WithoutTlv, Acknowledged, Plain}
use Rattle.timer_parts.specs.declared.t2.T2s.{T2s}
use Rattle.timer_parts.specs.declared.t3.T3.{T3}
use Rattle.timer_parts.specs.declared.t3.T3.TheVariants.{Idle, Runs, Expired}

-- ".. lowers a running T3 to clock + Remaining Time if smaller."
unfoldable pub lower_t3 : ℕ → T3 → T3
lower_t3 at Idle = Idle
lower_t3 at (Runs deadline) = cond (ltb at deadline) (Runs at) (Runs deadline)
lower_t3 at Expired = Expired

-- "An acknowledgement showing us Up .."
unfoldable pub heard_t3 : ℕ → Heard → T3 → T3
heard_t3 clock (WithoutTlv ours) t = t
heard_t3 clock (Acknowledged up remaining) t = cond up (lower_t3 (clock + remaining) t) t
heard_t3 clock Plain t = t

-- "T3 expires at a tick if the clock reached it and some running T2 has a later deadline .."
unfoldable pub expires_t3 : ℕ → T2s → T3 → Bool
expires_t3 clock both Idle = false
expires_t3 clock both (Runs deadline) = leb deadline clock && any_after deadline both
expires_t3 clock both Expired = false

unfoldable pub expired_t3 : T3 → Bool
expired_t3 Idle = false
expired_t3 (Runs deadline) = false
expired_t3 Expired = true
