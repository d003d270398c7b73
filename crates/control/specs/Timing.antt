-- What each call says of the control words: the common part that it leaves, and what it orders (document 01, "Timers while
-- Restarting"; document 02, W-201 and W-202).
use Rattle.std.specs.Prelude.{ℕ, Bool, true, false, ◌≡◌, List}
use Rattle.timer_parts.specs.declared.heard.Heard.{Heard}
use Rattle.timers.specs.Timers.{Timers, settled, to_t3, ticked, heard}
use Rattle.timers.specs.Hellos.{Hellos}
use Rattle.timers.specs.Outcome.{ordered, tick_hellos, heard_orders}
use Rattle.timers.specs.declared.events.HeardOrders.{HeardOrders}
use Rattle.settings.specs.Mode.{is_running}
use Rattle.timers.specs.declared.outcome.TimerOutcome.{TimerOutcome}
use Rattle.control.specs.Words.{common_of}
use Rattle.control.specs.Common.{with_clock, with_timers}

-- the mode of the words is not Running
abbrev pub On : List ℕ → Type 0
On ws = is_running (common_of ws).timers.mode ≡ false

-- a call whose own step is f; while the mode is Running no word changes
pub record CommonSettles (f : Timers → Timers) (ws ws' : List ℕ) (o : TimerOutcome) : Type 0 where
  pub common : common_of ws' ≡ with_timers (settled f (common_of ws).timers) (common_of ws)
  pub outcome : o ≡ ordered f (common_of ws).timers
  pub kept : is_running (common_of ws).timers.mode ≡ true → ws' ≡ ws

-- an accepted hello to the T1 in place i, at the held clock
pub record CommonHears (i : ℕ) (rose : Bool) (d : Heard) (ws ws' : List ℕ) (o : HeardOrders) : Type 0 where
  pub common : common_of ws'
      ≡ with_timers (heard (common_of ws).lengths (common_of ws).clock i rose d (common_of ws).timers) (common_of ws)
  pub orders : o ≡ heard_orders (common_of ws).lengths (common_of ws).clock i rose d (common_of ws).timers
  pub kept : is_running (common_of ws).timers.mode ≡ true → ws' ≡ ws

-- a tick's timers, where the clock is moved already
pub record CommonTicksOn (clock : ℕ) (ws ws' : List ℕ) (o : TimerOutcome) (h : Hellos) : Type 0 where
  pub settles : CommonSettles (to_t3 (common_of ws).lengths clock) ws ws' o
  pub hellos : h ≡ tick_hellos (common_of ws).lengths clock (common_of ws).timers

-- a tick: the clock, and the timers at it
pub record CommonTicks (clock : ℕ) (ws ws' : List ℕ) (o : TimerOutcome) (h : Hellos) : Type 0 where
  pub common : common_of ws' ≡ with_timers (ticked (common_of ws).lengths clock (common_of ws).timers) (with_clock clock (common_of ws))
  pub outcome : o ≡ ordered (to_t3 (common_of ws).lengths clock) (common_of ws).timers
  pub hellos : h ≡ tick_hellos (common_of ws).lengths clock (common_of ws).timers
