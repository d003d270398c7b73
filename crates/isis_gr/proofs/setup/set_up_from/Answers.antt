-- Refusal 12, or the circuits and then the rest.
use Rattle.control.specs.declared.setup.Basis.{Basis}
use Rattle.basics.specs.Mask.{circuits}
use Rattle.own_words.proofs.SetupLaws.{set-up-refused, set-up-done, counted_same}
use Rattle.gateway.proofs.PieceLaws.{own-refused, own-started, starts-as}
use Rattle.settings.proofs.SettingsLaws.{count-in-range}
use Rattle.isis_gr.specs.Settings.{settings_from}
use Prim.Native.Nat.{◌≤◌}
use mathlib.Core.Path.{sym, subst, ◌∙◌}
use Rattle.isis_gr.proofs.setup.set_up_from.Goals as goal

pub returns-then-are_settings_ok : goal.returns-then-are_settings_ok
returns-then-are_settings_ok c =
    let a = c.args in
    let x = c.put_circuits in
    let ok = sym c.are_settings_ok.ensures ∙ c.if-are_settings_ok.true in
    let e = c.basis_in.ensures in
    let le = subst (λ (b : Basis). b.count ≤ circuits) (sym e) (count-in-range (settings_from a.s.now) ok).1 in
    let b = starts-as (sym (counted_same c.basis_in.result le) ∙ e) c.start-hellos.ensures in
    own-started (set-up-done a.gateway.now (settings_from a.s.now) x.new.gateway c.start-hellos.new.gateway _ ok x.ensures b.begins) b.frames

pub returns : goal.returns
returns c =
    let a = c.args in
    own-refused (set-up-refused a.gateway.now (settings_from a.s.now) (sym c.are_settings_ok.ensures ∙ c.if-are_settings_ok.false))
