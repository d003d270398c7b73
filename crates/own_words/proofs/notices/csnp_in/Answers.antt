-- Refusal 1, or the stage on the circuit.
use Rattle.own_words.proofs.CallLaws.{csnp-is}
use Rattle.model.specs.Step.{CsnpComplete}
use Rattle.own_words.proofs.WordLaws.{along, refuses-all, choice, no-circuit, a-circuit}
use Rattle.own_words.specs.Words.{gateway_of}
use Rattle.basics.specs.declared.refusal.Refusal.TheVariants.{NoCircuit}
use mathlib.Core.Path.{◌∙◌}
use Rattle.own_words.proofs.notices.csnp_in.Goals as goal

pub returns-in_default : goal.returns-in_default
returns-in_default c = let a = c.args in along (no-circuit (gateway_of a.gateway.now) a.n (CsnpComplete a.level) (choice a.gateway.now a.n _ _ c.circuit_of.ensures c.in_default.is)) (refuses-all a.gateway.now _ NoCircuit)

pub returns : goal.returns
returns c = let a = c.args in along (csnp-is (gateway_of a.gateway.now) a.n _ a.level ∙ a-circuit (gateway_of a.gateway.now) a.n (CsnpComplete a.level) _ (choice a.gateway.now a.n _ _ c.circuit_of.ensures c.in-Some.is)) c.csnp_on.ensures
