-- Each field is a callee's answer or an octet.
use Rattle.basics.specs.Octets.{octet}
use Rattle.isis_gr.specs.Settings.{settings_from}
use Rattle.isis_gr.proofs.config.basis_in.Goals as goal

pub returns : goal.returns
unfolding settings_from
returns c =
    let s = c.args.s.now in
    λ i. record {
      system = c.six.ensures i;
      lengths = record { t1 = c.two.ensures i; t2 = c.two-2.ensures i; tries = octet s 10 };
      clock = c.four.ensures i;
      mode = c.mode_of.ensures i;
      count = octet s 16;
    }
