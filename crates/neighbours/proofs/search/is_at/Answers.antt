-- The eight octets are two and the MAC's six: the laws `told-above` and `told-turned`.
use Rattle.std.proofs.Common.{ℕ, ◌+◌, ◌<◌, ◌∙◌, arith}
use Rattle.basics.specs.Octets.{octet, little}
use Rattle.basics.proofs.OctetsLaws.{little-add, little-lt}
use Rattle.neighbours.specs.Search.{turned}
use Rattle.neighbours.proofs.SearchLaws.{turned_lt, told-above, told-turned}
use Rattle.neighbours.proofs.search.is_at.Goals as goal

pub returns : goal.returns
returns c =
    let v = c.args.v.now in
    let at = c.args.at in
    let h : (k : ℕ) → octet v k < 256 = λ k. omega (arith, c.type_inv.v k) in
    told-above c.eight.result _ (little 2 v at) (little 6 v (at + 2)) (turned 6 c.args.mac)
    (omega (arith, little-add v 2 6 at)) (little-lt v h 2 at) (turned_lt 6 c.args.mac) (omega arith)
    (rw (← c.requires.1.1) (omega arith))
    ∙ told-turned v h (at + 2) c.args.mac c.requires.1.0
