-- Each return is one test of the law `wrong-by`.
use Rattle.adjacency.proofs.StepLaws.{wrong-by}
use Rattle.adjacency.proofs.step.is_wrong_neighbor.Goals as goal

pub returns-then-wrong : goal.returns-then-wrong
returns-then-wrong c =
    rw (wrong-by c.args.here c.args.wrong c.args.phase c.args.frame c.requires, c.if-wrong.true, c.is_excused.ensures, c.is_up.ensures, c.is_request.ensures)

pub returns : goal.returns
returns c =
    rw (wrong-by c.args.here c.args.wrong c.args.phase c.args.frame c.requires, c.if-wrong.false)
