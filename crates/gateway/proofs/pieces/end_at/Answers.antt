-- What is taken decides: a refusal, or receive on the octets where they lie.
use Rattle.gateway.proofs.HandLaws.{takes-as, six-back, ends-does}
use Rattle.gateway.proofs.pieces.end_at.Goals as goal

pub returns : goal.returns
returns c = let t = takes-as c.take_at.ensures c.in_ok-mac.was in
    ends-does _ _ t (six-back _ t.mac-fits _ c.six_octets-source.ensures) (c.receive_at.ensures _)
