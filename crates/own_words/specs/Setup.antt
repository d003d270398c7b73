-- What setup is to do to the gateway's own words, in parts and whole (document 01, "What the gateway holds").
use Rattle.std.specs.Prelude.{ℕ, ◌<◌, ◌≤◌, ◌≡◌, ◌≢◌, List, map, set, Result, Ok, Err}
use Rattle.timers.specs.Hellos.{Hellos, hellos_of}
use Rattle.timers.specs.Events.{start_hellos}
use Rattle.basics.specs.Mask.{circuits}
use Rattle.settings.specs.declared.circuit.Circuit.{Circuit}
use Rattle.model.specs.Numbers.{refusal_no}
use Rattle.basics.specs.Lists.{part}
use Rattle.control.specs.Words.{control_words, circuit_at, circuits_from, count_in}
use Rattle.control.specs.Common.{start_of, setup_common}
use Rattle.control.specs.Setup.{settings_on}
use Rattle.control.specs.declared.setup.Basis.{Basis}
use Rattle.model.specs.Gateway.{Gateway, with_common, new_room, Setup, Refused as RefusedSetup, Started}
use Rattle.own_words.specs.Words.{gateway_of}
use Rattle.basics.specs.declared.refusal.Refusal.{Refusal}
use Rattle.timers.specs.declared.hellos.HelloOrders.{HelloOrders}

-- Setup in parts, of the words ws. A circuit (from 0) is put: its own settings and room, and no other's; nothing past the last.
pub record PutsCircuit (i : ℕ) (s : Circuit) (ws ws' : List ℕ) : Type 0 where
  pub own : i < circuits → circuit_at (part 0 control_words ws') i ≡ s
  pub others : (j : ℕ) → j ≢ i → circuit_at (part 0 control_words ws') j ≡ circuit_at (part 0 control_words ws) j
  pub rooms : (gateway_of ws').rooms ≡ set (gateway_of ws).rooms i (new_room s)
  pub kept : circuits ≤ i → ws' ≡ ws

-- all are put
pub record HoldsCircuits (all : List Circuit) (ws : List ℕ) : Type 0 where
  pub stored : circuits_from (part 0 control_words ws) 0 circuits ≡ all
  pub rooms : (gateway_of ws).rooms ≡ map new_room all

-- a count above 8 counts for none, as it does in the words
abbrev pub counted_basis : Basis → Basis
counted_basis b = record { system = b.system; lengths = b.lengths; clock = b.clock; mode = b.mode; count = count_in b.count }

-- then the rest begins
pub record Begins (b : Basis) (ws ws' : List ℕ) (hellos : Hellos) : Type 0 where
  pub next : gateway_of ws' ≡ with_common (gateway_of ws) (setup_common (settings_on b (circuits_from (part 0 control_words ws) 0 circuits)))
  pub ordered : hellos ≡ start_hellos (start_of (settings_on b (circuits_from (part 0 control_words ws) 0 circuits)))

-- setup's answer: its refusal's number, or the hellos that are ordered
pub data Report : Type 0 where
  Refused : (number : ℕ) → Report
  Begun : Hellos → Report

abbrev pub report_of : Result HelloOrders Refusal → Report
report_of (Err x) = Refused (refusal_no x)
report_of (Ok hellos) = Begun (hellos_of hellos)

abbrev pub report_in : Setup → Report
report_in (RefusedSetup x) = Refused x
report_in (Started g hellos) = Begun hellos

-- "refused (12) and no gateway results": what stood before stands
abbrev pub started_in : Gateway → Setup → Gateway
started_in before (RefusedSetup x) = before
started_in before (Started g hellos) = g

-- What setup on the words ws is to do, o being its outcome: a refusal leaves every word as it was.
pub record SetsUp (o : Setup) (ws ws' : List ℕ) (r : Result HelloOrders Refusal) : Type 0 where
  pub answer : report_of r ≡ report_in o
  pub next : gateway_of ws' ≡ started_in (gateway_of ws) o
  pub kept : (x : ℕ) → report_of r ≡ Refused x → ws' ≡ ws
