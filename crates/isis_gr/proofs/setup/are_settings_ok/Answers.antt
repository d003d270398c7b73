-- The count is tested first, so that no more circuits than there are are read.
use Prim.Native.Nat.{ℕ}
use lib.ListN.{take}
use Rattle.basics.specs.Lists.{every}
use Rattle.basics.specs.Mask.{circuits}
use Rattle.settings.specs.Settings.{between, circuit_ok, lengths_ok}
use Rattle.isis_gr.specs.Settings.{settings_from}
use Rattle.isis_gr.proofs.SettingsLaws.{ok-by, not-by}
use mathlib.Core.Path.{◌≡◌, refl, sym, ap, ◌∙◌}
use mathlib.Core.Bool.{true, false, true≢false}
use Rattle.isis_gr.proofs.setup.are_settings_ok.Goals as goal
use Rattle.isis_gr.proofs.setup.are_settings_ok.Goals.{then-is_between, else-is_between}

pub returns-then-are_circuits_ok : goal.returns-then-are_circuits_ok
returns-then-are_circuits_ok c =
    let b = c.basis_in-basis in
    elim c.if-is_between.branch [
      | then-is_between w ↦
          let on : between 1 b.result.count circuits ≡ true = rw (sym c.from.ensures) (sym c.is_between.ensures ∙ w.if-is_between.true) in
          let oks = w.are_circuits_ok.ensures ∙ ap (λ (n : ℕ). every circuit_ok (take n (settings_from c.args.s.now).circuits)) w.from-then-is_between.ensures in
          rw (sym w.value-is ∙ c.if-are_circuits_ok.true) at (ok-by c.args.s.now b.result b.ensures _ _ on oks c.are_lengths_ok.ensures)
      | else-is_between w ↦ absurd (true≢false (sym c.if-are_circuits_ok.true ∙ w.value-is ∙ w.if-is_between.false))
    ]

pub returns-else-are_circuits_ok : goal.returns-else-are_circuits_ok
returns-else-are_circuits_ok c =
    let b = c.basis_in-basis in
    elim c.if-is_between.branch [
      | then-is_between w ↦
          let on : between 1 b.result.count circuits ≡ true = rw (sym c.from.ensures) (sym c.is_between.ensures ∙ w.if-is_between.true) in
          let oks = w.are_circuits_ok.ensures ∙ ap (λ (n : ℕ). every circuit_ok (take n (settings_from c.args.s.now).circuits)) w.from-then-is_between.ensures in
          c.if-are_circuits_ok.false ∙ rw (sym w.value-is ∙ c.if-are_circuits_ok.false) at (ok-by c.args.s.now b.result b.ensures _ (lengths_ok b.result.lengths) on oks refl)
      | else-is_between w ↦
          let off : between 1 b.result.count circuits ≡ false = rw (sym c.from.ensures) (sym c.is_between.ensures ∙ w.if-is_between.false) in
          c.if-are_circuits_ok.false ∙ not-by c.args.s.now b.result b.ensures off
    ]
