-- Setup on the own words, and then no frame is begun.
use Rattle.gateway.proofs.PieceLaws.{whole-refused, whole-started}
use Rattle.std.proofs.lemmas.Result.{err_from_is_err_and}
use Rattle.gateway.proofs.whole.set_up_at.Goals as goal

pub returns-in_err-hellos : goal.returns-in_err-hellos
returns-in_err-hellos c =
    let x = c.set_up_in in
    let p = err_from_is_err_and c.from_residual.result c.from_residual.ensures.1 in
    rw (p.1, p.2) (whole-refused _ _ c.requires x.auto.gateway x.ensures c.in_err-hellos.was)

pub returns : goal.returns
returns c = let x = c.set_up_in in whole-started _ _ c.requires x.auto.gateway _ x.ensures c.in_ok-hellos.was c.drop_frames.ensures
