-- What `all` has answered, by the law `known-all`.
use Rattle.std.proofs.Common.{◌≡◌, true, false, refl, rules, arith}
use Rattle.std.proofs.lemmas.Iterator.{cases_from_all, YieldsList-from_range}
use Rattle.isis_gr.specs.Settings.{circuit_place, circuit_known}
use Rattle.isis_gr.proofs.SettingsLaws.{known-all}
use Rattle.isis_gr.proofs.config.are_circuits_known.Goals as goal

pub returns : goal.returns
returns c =
    let s = c.args.s.now in
    let n = c.args.count in
    known-all s n c.requires.1 _
    (cases_from_all _ _ _ (λ i. circuit_known s (circuit_place i) ≡ true) (λ i. circuit_known s (circuit_place i) ≡ false) c.all.ensures.ran
    (YieldsList-from_range 0 n n refl (omega arith)) (λ x q k. (search rules, search rules)) (λ x q k. search rules))
