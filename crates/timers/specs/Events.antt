-- What each call says, in full: the timers that it leaves and what it answers (document 01, "Timers while Restarting"; document 02, W-201 and W-202).
use Rattle.std.specs.Prelude.{ℕ, ◌+◌, Bool, false, map, ◌≡◌}
use Rattle.timers.specs.Memory.{t1_bits}
use Rattle.restart_tlv.specs.Flags.{RR}
use Rattle.timer_parts.specs.T1.{start_entry, hello_due}
use Rattle.timer_parts.specs.T2.{start_t2s}
use Rattle.timer_parts.specs.declared.heard.Heard.{Heard}
use Rattle.settings.specs.declared.lengths.Lengths.{Lengths}
use Rattle.settings.specs.Serving.{all_t1s}
use Rattle.timer_parts.specs.declared.t1.T1.{T1}
use Rattle.timer_parts.specs.declared.t3.T3.TheVariants.{Idle, Runs}
use Rattle.settings.specs.declared.mode.Mode.{Mode}
use Rattle.settings.specs.declared.mode.Mode.TheVariants.{Running, Restarting, Starting}
use Rattle.timers.specs.declared.head.Head.{Head}
use Rattle.timers.specs.declared.events.Start.{Start}
use Rattle.timers.specs.declared.events.HeardOrders.{HeardOrders}
use Rattle.timers.specs.declared.outcome.TimerOutcome.{TimerOutcome}
use Rattle.settings.specs.Mode.{is_restarting}
use Rattle.timers.specs.Hellos.{Hellos, hello_bits, ordering, again_flags}
use Rattle.timers.specs.Timers.{Timers, closed, to_t3, heard_in}
use Rattle.timers.specs.Outcome.{outcome_of, heard_orders}

-- "Setup orders a hello with RR on every circuit and starts T1 on each .., T2 per enabled level, T3 at clock + 65,535." Document 02, W-202: on a LAN
-- a hello and a T1 for each level. In the mode Running no timer runs. Document 02, W-201: in the mode Starting "T2 runs per level", no T1 has begun,
-- and "T3 isn't used".
unfoldable pub head_by : Mode → Start → Head
head_by Running s = record { mode = Running; mask = 0; t2s = start_t2s (record { one = false; two = false }) 0; t3 = Idle }
head_by Restarting s =
    record {
      mode = Restarting;
      mask = all_t1s s.serving;
      t2s = start_t2s s.levels (s.clock + s.lengths.t2);
      t3 = Runs (s.clock + 65535);
    }
head_by Starting s = record { mode = Starting; mask = 0; t2s = start_t2s s.levels (s.clock + s.lengths.t2); t3 = Idle }

abbrev pub start_head : Start → Head
start_head s = head_by s.mode s

unfoldable pub start_t1 : Bool → ℕ → Bool → T1
start_t1 begun deadline b = record { runs = b; entry = start_entry begun deadline }

-- "a hello with RR" for each T1 that starts
unfoldable pub start_hellos : Start → Hellos
start_hellos s = ordering RR (hello_bits (start_head s).mask)

unfoldable pub started : Start → Timers
started s =
    record {
      mode = (start_head s).mode;
      serving = s.serving;
      t1s = map (start_t1 (is_restarting s.mode) (s.clock + s.lengths.t1)) (t1_bits (start_head s).mask);
      t2s = (start_head s).t2s;
      t3 = (start_head s).t3;
    }

pub record Starts (s : Start) (after : Timers) (h : Hellos) : Type 0 where
  pub timers : after ≡ started s
  pub hellos : h ≡ start_hellos s

-- Of a gateway whose mode is not Running: a call whose own step is f, of the timers t before it
pub record Closes (f : Timers → Timers) (t after : Timers) (o : TimerOutcome) : Type 0 where
  pub timers : after ≡ closed f t
  pub outcome : o ≡ outcome_of t (f t) (closed f t)

-- a tick, and the hellos that it orders
pub record Ticks (s : Lengths) (clock : ℕ) (t after : Timers) (o : TimerOutcome) (h : Hellos) : Type 0 where
  pub closes : Closes (to_t3 s clock) t after o
  pub hellos : h ≡ ordering (again_flags t.mode) (map (hello_due s clock) t.t1s)

-- an accepted hello, and all that it orders
pub record Hears (s : Lengths) (clock i : ℕ) (rose : Bool) (d : Heard) (t after : Timers) (o : HeardOrders) : Type 0 where
  pub timers : after ≡ closed (heard_in s clock i rose d) t
  pub orders : o ≡ heard_orders s clock i rose d t
