-- A refused receive on the circuit, or no record.
use Rattle.isis_gr_why.proofs.ToldLaws.{unknown-accepted, unknown-there, unknown-elsewhere}
use Rattle.isis_gr_why.proofs.tell.why_unknown.Goals as goal

pub returns-in_default-answer : goal.returns-in_default-answer
returns-in_default-answer c = λ mac frame b x y t. unknown-accepted _ _ _ c.in-Frame.is mac frame b x y t _ _ c.in_default-answer.is

pub returns-then-n-circuit : goal.returns-then-n-circuit
returns-then-n-circuit c = λ mac frame b x y t. unknown-there _ _ _ c.in-Frame.is mac frame b x y t _ c.in-Err.is _ c.if-n-circuit.true

pub returns : goal.returns
returns c = λ mac frame b x y t. unknown-elsewhere _ _ _ c.in-Frame.is mac frame b x y t _ c.in-Err.is _ c.if-n-circuit.false
