-- A record and its state (document 01, "What the gateway holds").
use Rattle.std.specs.Prelude.{ℕ, Bool, true, false, not, Option, Some, None}
use Rattle.adjacency.specs.declared.record.Mark.{Mark}
use Rattle.adjacency.specs.declared.record.Mark.TheVariants.{Clear}
use Rattle.adjacency.specs.declared.record.State.{State}
use Rattle.adjacency.specs.declared.record.State.TheVariants.{Init, Up}
use Rattle.adjacency.specs.declared.record.Phase.{Phase}
use Rattle.adjacency.specs.declared.record.Phase.TheVariants.{Gone, Init as InitPhase, Up as UpPhase}

-- a record is advertised exactly when it is UP and not Suppressed
abbrev pub advertised : State → Bool
advertised (Init d) = false
advertised (Up d m) = not d.suppressed

abbrev pub phase_of : Option State → Phase
phase_of None = Gone
phase_of (Some (Init d)) = InitPhase
phase_of (Some (Up d m)) = UpPhase

abbrev pub is_up : Phase → Bool
is_up Gone = false
is_up InitPhase = false
is_up UpPhase = true

abbrev pub expiry_of : State → ℕ
expiry_of (Init d) = d.expiry
expiry_of (Up d m) = d.expiry

-- a new record starts unmarked
abbrev pub mark_of : Option State → Mark
mark_of None = Clear
mark_of (Some (Init d)) = Clear
mark_of (Some (Up d m)) = m

abbrev pub suppressed_of : Option State → Bool
suppressed_of None = false
suppressed_of (Some (Init d)) = d.suppressed
suppressed_of (Some (Up d m)) = d.suppressed
