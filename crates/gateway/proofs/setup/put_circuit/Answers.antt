-- Past the last circuit nothing is done.
use Rattle.own_words.proofs.SetupLaws.{puts_none}
use Rattle.gateway.proofs.setup.put_circuit.Goals as goal

pub returns-then-i-ge-CIRCUITS : goal.returns-then-i-ge-CIRCUITS
returns-then-i-ge-CIRCUITS c = let a = c.args in puts_none a.gateway.now a.i a.s c.if-i-ge-CIRCUITS.true
