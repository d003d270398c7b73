-- Known settings of this layout are set up as crate gateway does; others are refused 12, and nothing is written.
use Rattle.isis_gr.proofs.SettingsLaws.{encodes-known, encodes-unknown, encodes-other}
use mathlib.Core.Path.{refl, sym, ◌∙◌}
use Rattle.isis_gr.proofs.exports.isis_gr_raw_set_up.Goals as goal

pub returns-then-version-ne-LAYOUT : goal.returns-then-version-ne-LAYOUT
returns-then-version-ne-LAYOUT c = encodes-other c.args.settings.now c.args.version c.if-version-ne-LAYOUT.true c.set_up_word.ensures

pub returns-then-are_settings_known : goal.returns-then-are_settings_known
returns-then-are_settings_known c =
    let a = c.args in
    encodes-known a.settings.now a.version c.if-version-ne-LAYOUT.false (sym c.are_settings_known.ensures ∙ c.if-are_settings_known.true) refl
    c.set_up_from.ensures c.set_up_word-then-are_settings_known.ensures

pub returns : goal.returns
returns c =
    let a = c.args in
    encodes-unknown a.settings.now a.version c.if-version-ne-LAYOUT.false (sym c.are_settings_known.ensures ∙ c.if-are_settings_known.false) c.set_up_word-2.ensures
