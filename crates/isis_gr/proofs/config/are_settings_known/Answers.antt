-- The mode, then the first `count` circuits, as far as there are so many.
use Prim.Native.Nat.{ℕ, min}
use Rattle.basics.specs.Mask.{circuits}
use Rattle.isis_gr.proofs.SettingsLaws.{unknown-mode, known-counted}
use mathlib.Core.Path.{sym, ap, ◌∙◌}
use borrow.Author.Tests.{lt-ltb, le-ltb}
use Rattle.isis_gr.proofs.config.are_settings_known.Goals as goal

pub returns-then-s-lt3 : goal.returns-then-s-lt3
returns-then-s-lt3 c =
    c.are_circuits_known.ensures ∙ known-counted c.args.s.now (lt-ltb _ _ c.if-s-lt3.true) c.min.result (c.min.ensures ∙ ap (λ (n : ℕ). min n circuits) c.from.ensures)

pub returns-else-s-lt3 : goal.returns-else-s-lt3
returns-else-s-lt3 c = let off = le-ltb _ _ c.if-s-lt3.false in off ∙ sym (unknown-mode c.args.s.now off)
