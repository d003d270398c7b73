-- The mode, asked by name (document 01, "What the gateway holds": "a mode, Running or Restarting"; document 02, W-201: "Setup gets a
-- third mode, Starting").
use Rattle.std.specs.Prelude.{Bool, true, false}
use Rattle.settings.specs.declared.mode.Mode.{Mode}
use Rattle.settings.specs.declared.mode.Mode.TheVariants.{Running, Restarting, Starting}

abbrev pub is_running : Mode → Bool
is_running Running = true
is_running Restarting = false
is_running Starting = false

abbrev pub is_restarting : Mode → Bool
is_restarting Running = false
is_restarting Restarting = true
is_restarting Starting = false

abbrev pub is_starting : Mode → Bool
is_starting Running = false
is_starting Restarting = false
is_starting Starting = true
