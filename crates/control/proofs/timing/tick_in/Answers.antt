-- As for a hello, at the given clock.
use Rattle.control.proofs.TimingLaws.{on-sealed, length-put, seal-put, put-stored, ticks-here}
use mathlib.Core.Path.{◌∙◌}
use native.Mathlib.Omega.{arith}
use borrow.Rule.Slice.PartMut.{mid_len}
use Rattle.control.specs.Words.{entries_place, entries_end}
use Rattle.control.proofs.timing.tick_in.Goals as goal

pub store_head-requires : goal.store_head-requires
store_head-requires c =
    let ws = c.args.words.now in
    let x = c.tick_timers-x in
    let t = x.auto.words ∙ mid_len entries_place entries_end ws (omega (arith, c.requires.0)) in
    (length-put ws x.new.words c.requires.0 t, seal-put ws x.new.words c.requires.0 t (on-sealed ws c.requires.1))

pub returns : goal.returns
returns c =
    let ws = c.args.words.now in
    let x = c.tick_timers-x in
    let t = x.auto.words ∙ mid_len entries_place entries_end ws (omega (arith, c.requires.0)) in
    let y = c.store_head in
    let h = c.load_head-h in
    let n = c.lengths_of-s in
    let v = c.serving_of-v in
    ticks-here ws y.new.words _ (put-stored ws x.new.words c.requires.0 t y.new.words _ _ v.ensures y.ensures) c.requires.1 v.result h.result v.ensures h.ensures
    n.result _ _ _ n.ensures x.ensures
