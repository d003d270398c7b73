-- Each field is a callee's answer or an octet.
use Prim.Native.Nat.{◌+◌}
use Rattle.basics.specs.Octets.{octet}
use Rattle.isis_gr.specs.Settings.{circuit_from}
use Rattle.isis_gr.proofs.config.circuit_at.Goals as goal

pub returns : goal.returns
unfolding circuit_from
returns c =
    let a = c.args in
    λ i. record {
      kind = c.kind_of.ensures i;
      levels = c.levels_of.ensures i;
      mac = c.six.ensures i;
      priority = octet a.s.now (a.at + 8);
      hold = c.two.ensures i;
      metric = c.four.ensures i;
      id = c.four-2.ensures i;
    }
