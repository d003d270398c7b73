-- Refusal 1, or the metric with the first record of the room.
use Rattle.own_words.proofs.CallLaws.{measures}
use Rattle.model.specs.Step.{LinkMetric}
use Rattle.own_words.proofs.WordLaws.{along, refuses-all, choice, no-circuit, a-circuit}
use Rattle.own_words.specs.Words.{gateway_of}
use Rattle.control.specs.Common.{InRange}
use Rattle.basics.specs.declared.refusal.Refusal.TheVariants.{NoCircuit}
use mathlib.Core.Path.{subst}
use Rattle.own_words.proofs.asks.metric_in.Goals as goal

pub returns-in_default : goal.returns-in_default
returns-in_default c = let a = c.args in along (no-circuit (gateway_of a.gateway.now) a.n LinkMetric (choice a.gateway.now a.n _ _ c.circuit_of.ensures c.in_default.is)) (refuses-all a.gateway.now _ NoCircuit)

pub returns : goal.returns
returns c = let a = c.args in let r = subst (InRange _) c.in-Some.is c.circuit_of.ensures.range in along (a-circuit (gateway_of a.gateway.now) a.n LinkMetric _ (choice a.gateway.now a.n _ _ c.circuit_of.ensures c.in-Some.is)) (measures a.gateway.now a.n c.requires r.0 r.1 _ _ _ c.first_state-stood.ensures c.link_metric.ensures)
