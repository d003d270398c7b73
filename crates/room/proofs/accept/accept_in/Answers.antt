-- The decision is that of the record that stood.
use mathlib.Core.Path.{ap, sym, ◌∙◌}
use Rattle.adjacency.specs.Record.{phase_of}
use Rattle.room.proofs.AcceptLaws.{decided-is}
use Rattle.room.proofs.accept.accept_in.Goals as goal

pub returns : goal.returns
returns c =
    let x = c.accept_at-reaction.ensures in
    let found = c.place_of-place.ensures.found in
    record {
      is = x.is ∙ decided-is _ _ _ _ _ _ found c.react_to-what.ensures;
      did = x.did;
      before = c.phase_of-before.ensures ∙ ap phase_of (sym found);
    }
