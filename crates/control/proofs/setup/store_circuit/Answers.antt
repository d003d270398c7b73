-- Three words are stored; they mean the circuit, and no other circuit changes.
use mathlib.Core.Path.{◌∙◌}
use Rattle.control.proofs.SetupLaws.{circuit-here, circuit-else}
use Rattle.control.proofs.setup.store_circuit.Goals as goal

pub returns : goal.returns
returns c = let ws = c.args.words.now in (circuit-here ws c.args.i c.circuit_word.result c.args.s.mac c.args.s.id c.requires.0 c.requires.1 ∙ c.circuit_word.ensures, circuit-else ws c.args.i c.circuit_word.result c.args.s.mac c.args.s.id)
