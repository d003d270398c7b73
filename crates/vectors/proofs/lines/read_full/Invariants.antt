-- What was read fills the buffer's first part.
use Rattle.std.proofs.Common.{◌≤◌, ◌-◌, length}
use Rattle.vectors.proofs.lines.read_full.Given as goal

abbrev pub invariant-loop-n : goal.invariant-loop-n
invariant-loop-n g l = l.n ≤ length l.buffer

abbrev pub decreases-loop-n : goal.decreases-loop-n
decreases-loop-n g l = length l.buffer - l.n
