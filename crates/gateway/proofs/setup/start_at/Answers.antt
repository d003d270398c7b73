-- The rest on the own words, and then no frame is begun.
use Rattle.gateway.proofs.PieceLaws.{starts-whole}
use Rattle.gateway.proofs.setup.start_at.Goals as goal

pub returns : goal.returns
returns c = starts-whole _ _ c.requires.0 c.begin_in-hellos.auto.gateway _ c.begin_in-hellos.ensures c.drop_frames.ensures
