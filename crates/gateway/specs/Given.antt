-- Settings and keys as a caller gives them, with MACs and System IDs of six octets (document 01, "What the gateway holds").
use Rattle.std.specs.Prelude.{ℕ, List, map}
use Rattle.basics.specs.Octets.{big}
use Rattle.adjacency.specs.declared.record.Key.{Key}
use Rattle.settings.specs.declared.circuit.Circuit.{Circuit}
use Rattle.settings.specs.declared.setup.Settings.{Settings}
use Rattle.gateway.specs.declared.config.GatewaySettings.{GatewaySettings}
use Rattle.gateway.specs.declared.config.CircuitSettings.{CircuitSettings}

abbrev pub circuit_given : CircuitSettings → Circuit
circuit_given s =
    record {
      kind = s.kind;
      levels = s.levels;
      mac = big 6 s.mac 0;
      priority = s.priority;
      hold = s.hold;
      metric = s.metric;
      id = s.id;
    }

abbrev pub settings_given : GatewaySettings → Settings
settings_given s =
    record {
      system = big 6 s.system 0;
      lengths = s.lengths;
      clock = s.clock;
      mode = s.mode;
      count = s.count;
      circuits = map circuit_given s.circuits;
    }

abbrev pub key_given : ℕ → List ℕ → List ℕ → Key
key_given level system mac = record { level = level; system = big 6 system 0; mac = big 6 mac 0 }
