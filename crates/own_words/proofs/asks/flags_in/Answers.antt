-- Refusal 1, or the stage on the circuit.
use mathlib.Core.Path.{◌∙◌}
use Rattle.basics.specs.declared.refusal.Refusal.TheVariants.{NoCircuit}
use Rattle.own_words.specs.Words.{gateway_of}
use Rattle.own_words.proofs.WordLaws.{along, refuses-all, choice, no-circuit, a-circuit}
use Rattle.model.specs.Step.{NextHello}
use Rattle.own_words.proofs.CallLaws.{flags-is}
use Rattle.own_words.proofs.asks.flags_in.Goals as goal

pub returns-in_default : goal.returns-in_default
returns-in_default c =
    let a = c.args in
    along (no-circuit (gateway_of a.gateway.now) a.n (NextHello a.level) (choice a.gateway.now a.n _ _ c.circuit_of.ensures c.in_default.is))
    (refuses-all a.gateway.now _ NoCircuit)

pub returns : goal.returns
returns c =
    let a = c.args in
    let g = gateway_of a.gateway.now in
    along (flags-is g a.n _ a.level ∙ a-circuit g a.n (NextHello a.level) _ (choice a.gateway.now a.n _ _ c.circuit_of.ensures c.in-Some.is))
    c.flags_on.ensures
