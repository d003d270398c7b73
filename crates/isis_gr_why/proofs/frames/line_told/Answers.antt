-- The reply decides, and then the record.
use mathlib.Core.Path.{ap, ◌∙◌}
use Rattle.basics.specs.Octets.{has_bits}
use Rattle.adjacency.specs.Marks.{last_line, line_of, line_by, planned}
use Rattle.adjacency.specs.declared.marks.Road.{Road}
use Rattle.isis_gr_why.proofs.frames.line_told.Goals as goal

pub returns-in_default : goal.returns-in_default
unfolding line_of line_by planned has_bits
returns-in_default c = rw c.in_default.is (ap (λ (x : Road). x.line) c.road_of-road.ensures ∙ ap last_line c.mark_of-mark.ensures)
