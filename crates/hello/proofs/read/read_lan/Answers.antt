-- Each return is one law of `link_read` on a LAN.
use Rattle.hello.proofs.HelloLaws.{lan-bad, lan-good}
use Rattle.std.proofs.lemmas.Result.{err_from_is_err_and}
use mathlib.Core.Path.{sym, ◌∙◌}
use Rattle.hello.proofs.read.read_lan.Goals as goal

pub returns-in_err-listed : goal.returns-in_err-listed
returns-in_err-listed c =
    let p = err_from_is_err_and c.from_residual.result c.from_residual.ensures.1 in
    rw (p.1, p.2) (sym (lan-bad _ _ _ (sym c.read_lists.ensures ∙ c.in_err-listed.was)))

pub returns : goal.returns
returns c = sym (lan-good _ _ _ _ (sym c.read_lists.ensures ∙ c.in_ok-listed.was))
