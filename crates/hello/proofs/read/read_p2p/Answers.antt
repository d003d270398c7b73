-- Each return is one law of `link_read` on P2P.
use Rattle.hello.proofs.HelloLaws.{p2p-bad, p2p-good}
use Rattle.std.proofs.lemmas.Result.{err_from_is_err_and}
use mathlib.Core.Path.{sym, ◌∙◌}
use Rattle.hello.proofs.read.read_p2p.Goals as goal

pub returns-in_err-read_three_way : goal.returns-in_err-read_three_way
returns-in_err-read_three_way c =
    let p = err_from_is_err_and c.from_residual.result c.from_residual.ensures.1 in
    rw (p.1, p.2) (sym (p2p-bad _ _ _ (sym c.read_three_way.ensures ∙ c.in_err-read_three_way.was)))

pub returns : goal.returns
returns c = sym (p2p-good _ _ _ _ (sym c.read_three_way.ensures ∙ c.in_ok-read_three_way.was))
