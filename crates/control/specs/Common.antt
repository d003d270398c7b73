-- What is not one circuit's own records (document 01, "What the gateway holds"): the settings, the clock and the timers.
use Rattle.std.specs.Prelude.{ℕ, zero, suc, ◌<◌, ◌≤◌, false, cond, ◌≡◌, List, ltb, length, get_or, Option, Some, None}
use Rattle.basics.specs.Mask.{circuits}
use Rattle.basics.specs.declared.kind.CircuitKind.TheVariants.{Lan}
use Rattle.settings.specs.declared.lengths.Lengths.{Lengths}
use Rattle.timers.specs.Timers.{Timers}
use Rattle.timers.specs.Events.{started}
use Rattle.timers.specs.declared.events.Start.{Start}
use Rattle.settings.specs.declared.circuit.Circuit.{Circuit}
use Rattle.settings.specs.declared.setup.Settings.{Settings}
use Rattle.settings.specs.Settings.{circuits_of, enabled_levels}
use Rattle.settings.specs.Serving.{serving}

pub record Common : Type 0 where
  pub system : ℕ
  pub lengths : Lengths
  pub circuits : List Circuit
  pub clock : ℕ
  pub timers : Timers

abbrev pub with_clock : ℕ → Common → Common
with_clock clock c = record { system = c.system; lengths = c.lengths; circuits = c.circuits; clock = clock; timers = c.timers }

abbrev pub with_timers : Timers → Common → Common
with_timers t c = record { system = c.system; lengths = c.lengths; circuits = c.circuits; clock = c.clock; timers = t }

-- what stands past the circuits' end: no call asks for it
abbrev pub no_circuit : Circuit
no_circuit = record { kind = Lan; levels = record { one = false; two = false }; mac = 0; priority = 0; hold = 0; metric = 0; id = 0 }

-- "1 to 8 circuits, numbered from 1"; document 01, "Refusals by number": 1 where there is no circuit of that number
unfoldable pub circuit_of : Common → ℕ → Option Circuit
circuit_of c zero = None
circuit_of c (suc i) = cond (ltb i (length c.circuits)) (Some (get_or c.circuits i no_circuit)) None

abbrev pub InRange : ℕ → Option Circuit → Type 0
InRange n (Some s) = (0 < n) × (n ≤ circuits)
InRange n None = Unit {0}

-- the circuit of the number n, with the number's range
pub record Chooses (c : Common) (n : ℕ) (r : Option Circuit) : Type 0 where
  pub is : r ≡ circuit_of c n
  pub range : InRange n r

-- ---- setup

-- what setup gives to the timers
abbrev pub start_of : Settings → Start
start_of s =
    record {
      mode = s.mode;
      lengths = s.lengths;
      clock = s.clock;
      serving = serving (circuits_of s);
      levels = enabled_levels (circuits_of s);
    }

-- "Setup takes these, a clock in seconds (32 bits) and a mode": the whole common part, whatever the words were before
unfoldable pub setup_common : Settings → Common
setup_common s = record { system = s.system; lengths = s.lengths; circuits = circuits_of s; clock = s.clock; timers = started (start_of s) }
