-- The two answers of the common part.
use Rattle.own_words.proofs.CallLaws.{waits}
use Rattle.own_words.proofs.asks.waiting_in.Goals as goal

pub returns : goal.returns
returns c = waits c.args.gateway.now _ _ c.count_waiting-count.ensures c.lowest_waiting-lowest.ensures
