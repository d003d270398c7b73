-- Line 1's order from the room, and the timers' with the control words put back.
use mathlib.Core.Path.{◌≡◌, sym, ap, ◌∙◌}
use Prim.Native.Nat.{ℕ, ◌-◌}
use native.Mathlib.Omega.{arith}
use Rattle.settings.specs.Serving.{t1_place}
use Rattle.model.specs.Receive.{rank_of, said_of}
use Rattle.own_words.proofs.WordLaws.{common-at}
use Rattle.own_words.proofs.FrameLaws.{gives, hears-said, of-circuit}
use Rattle.own_words.proofs.frame.order_in.Goals as goal

pub returns : goal.returns
returns c =
    let l = c.load_circuit-s in
    let a = c.args in
    let y = c.hear-x in
    let place = ap (λ (k : ℕ). t1_place l.result.kind (a.n - 1) k) c.requires.3.level in
    let says = c.requires.3.says ∙ (λ i. said_of (sym (common-at a.gateway.now) i) (sym l.ensures i) a.frame) in
    let rank : record { level = a.change.level; priority = l.result.priority; mac = l.result.mac } ≡ rank_of l.result a.frame =
    λ i. record { level = c.requires.3.level i; priority = l.result.priority; mac = l.result.mac } in
    of-circuit l.ensures
    (gives a.gateway.now a.n l.result a.frame a.reply a.line a.change c.requires.0 c.requires.1 c.requires.2 _ _ _ y.new.words (omega (arith, y.auto.words)) rank
    c.csnps_in-csnps.ensures (hears-said place c.rises.ensures says y.ensures))
