-- The invariant: the levels found, with those of the circuits from i on, are those of all circuits.
use mathlib.Core.Path.{◌≡◌}
use lib.ListN.{drop}
use Rattle.basics.specs.Levels.{union}
use Rattle.settings.specs.Settings.{enabled_levels}
use Rattle.control.specs.Words.{common_of}
use Rattle.control.proofs.words.levels_of.Given as goal

abbrev pub invariant-loop-i : goal.invariant-loop-i
invariant-loop-i l = union l.found (enabled_levels (drop l.i (common_of l.words).circuits)) ≡ enabled_levels (common_of l.words).circuits
