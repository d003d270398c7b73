-- The callees in the order of `accepted_by`.
use Rattle.adjacency.specs.React.{accepted_by}
use Rattle.adjacency.proofs.react.accept.Goals as goal

pub returns : goal.returns
unfolding accepted_by
returns c = rw (c.reply_in-reply.ensures, c.state_as-state.ensures, c.mark_by.ensures, c.mark_of.ensures, c.data_by-data.ensures)
