-- Runs of calls (document 01, "The runs of demand 3"), of any gateway: what stood before each call, the call, and what came of it. Every claim
-- about lists of calls speaks of this one trace.
use Rattle.std.specs.Prelude.{List, [], ◌∷◌}
use Rattle.model.specs.Gateway.{Gateway}
use Rattle.model.specs.Step.{Call, Outcome, step}

pub record Turn : Type 0 where
  pub before : Gateway
  pub call : Call
  pub outcome : Outcome

-- "Each call gets the gateway that the last one returned or left"
unfoldable pub trace : Gateway → List Call → List Turn
trace g [] = []
trace g (c ∷ cs) =
    let o : Outcome = step g c in
    record { before = g; call = c; outcome = o } ∷ trace o.next cs

-- the gateway that stands after turns from g
unfoldable pub left_by : Gateway → List Turn → Gateway
left_by g [] = g
left_by g (t ∷ ts) = left_by t.outcome.next ts

abbrev pub after : Gateway → List Call → Gateway
after g cs = left_by g (trace g cs)

-- a property of every turn
pub data EveryTurn (P : Turn → Type 0) : List Turn → Type 0 where
  none : EveryTurn P []
  more : {t : Turn} {ts : List Turn} → P t → EveryTurn P ts → EveryTurn P (t ∷ ts)
