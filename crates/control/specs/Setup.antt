-- What setup says of the control words, whatever they were (document 01, "What the gateway holds").
use Rattle.std.specs.Prelude.{ℕ, ◌≡◌, List, get_or}
use Rattle.settings.specs.declared.lengths.Lengths.{Lengths}
use Rattle.settings.specs.declared.serving.Serving.{Serving}
use Rattle.timers.specs.Hellos.{Hellos}
use Rattle.timers.specs.Events.{start_hellos}
use Rattle.settings.specs.declared.circuit.Circuit.{Circuit}
use Rattle.settings.specs.declared.setup.Settings.{Settings}
use Rattle.control.specs.declared.setup.Basis.{Basis}
use Rattle.control.specs.Words.{seal_place, seal, circuits_from, serving_of, common_of}
use Rattle.control.specs.Common.{start_of, setup_common}

-- the settings of a gateway whose circuits stand in its words
abbrev pub settings_on : Basis → List Circuit → Settings
settings_on b cs = record { system = b.system; lengths = b.lengths; clock = b.clock; mode = b.mode; count = b.count; circuits = cs }

-- .. and these without their circuits
abbrev pub basis_of : Settings → Basis
basis_of s = record { system = s.system; lengths = s.lengths; clock = s.clock; mode = s.mode; count = s.count }

-- the words that no timer changes, but for the circuits'
pub record Stores (own : ℕ) (l : Lengths) (time n : ℕ) (v : Serving) (ws ws' : List ℕ) : Type 0 where
  pub sealed : get_or ws' seal_place 0 ≡ seal
  pub system : (common_of ws').system ≡ own
  pub lengths : (common_of ws').lengths ≡ l
  pub clock : (common_of ws').clock ≡ time
  pub serving : serving_of ws' ≡ v
  pub circuits : (common_of ws').circuits ≡ circuits_from ws 0 n

-- all of them, and the hellos that are ordered
pub record SetsControl (s : Settings) (ws' : List ℕ) (h : Hellos) : Type 0 where
  pub common : common_of ws' ≡ setup_common s
  pub hellos : h ≡ start_hellos (start_of s)
