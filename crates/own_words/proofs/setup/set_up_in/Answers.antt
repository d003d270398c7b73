-- Refusal 12, or the circuits and then the rest.
use Rattle.own_words.proofs.SetupLaws.{set-up-refused, set-up-done}
use Rattle.settings.proofs.SettingsLaws.{count-in-range}
use mathlib.Core.Path.{sym, ◌∙◌}
use Rattle.own_words.proofs.setup.set_up_in.Goals as goal

pub begin_in-hellos-requires : goal.begin_in-hellos-requires
begin_in-hellos-requires c =
    (c.put_circuits.auto.gateway ∙ c.requires, (count-in-range c.args.s (sym c.are_settings_ok.ensures ∙ c.if-are_settings_ok.true)).1)

pub returns-then-are_settings_ok : goal.returns-then-are_settings_ok
returns-then-are_settings_ok c =
    let x = c.put_circuits in
    let y = c.begin_in-hellos in
    set-up-done c.args.gateway.now c.args.s x.new.gateway y.new.gateway _ (sym c.are_settings_ok.ensures ∙ c.if-are_settings_ok.true) x.ensures y.ensures

pub returns : goal.returns
returns c =
    let a = c.args in
    set-up-refused a.gateway.now a.s (sym c.are_settings_ok.ensures ∙ c.if-are_settings_ok.false)
