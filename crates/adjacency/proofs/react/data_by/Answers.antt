-- The callees in the order of `data_by`.
use Rattle.adjacency.specs.React.{data_by}
use Rattle.adjacency.proofs.react.data_by.Goals as goal

pub returns : goal.returns
unfolding data_by
returns c = rw (c.last_of-last.ensures, c.requires.1, c.expiry_by-expiry.ensures, c.mark_of.ensures, c.times_of-times.ensures)
