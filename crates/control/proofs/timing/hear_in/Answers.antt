-- The entries are put back and the head stored: the timers of the call, and nothing else.
use Rattle.control.proofs.TimingLaws.{on-head, on-sealed, length-put, seal-put, put-stored, hears-here}
use mathlib.Core.Path.{◌∙◌}
use native.Mathlib.Omega.{arith}
use borrow.Rule.Slice.PartMut.{mid_len}
use Rattle.control.specs.Words.{entries_place, entries_end}
use Rattle.control.proofs.timing.hear_in.Goals as goal

pub hear_hello-x-requires : goal.hear_hello-x-requires
hear_hello-x-requires c =
    let ws = c.args.words.now in
    (mid_len entries_place entries_end ws (omega (arith, c.requires.0)), c.requires.1, on-head ws _ c.load_head-h.ensures c.requires.2)

pub store_head-requires : goal.store_head-requires
store_head-requires c =
    let ws = c.args.words.now in
    let x = c.hear_hello-x in
    let t = x.auto.words ∙ mid_len entries_place entries_end ws (omega (arith, c.requires.0)) in
    (length-put ws x.new.words c.requires.0 t, seal-put ws x.new.words c.requires.0 t (on-sealed ws c.requires.2))

pub returns : goal.returns
returns c =
    let ws = c.args.words.now in
    let x = c.hear_hello-x in
    let t = x.auto.words ∙ mid_len entries_place entries_end ws (omega (arith, c.requires.0)) in
    let y = c.store_head in
    let h = c.load_head-h in
    let v = c.serving_of-v in
    hears-here ws y.new.words _ (put-stored ws x.new.words c.requires.0 t y.new.words _ _ v.ensures y.ensures) c.requires.2 v.result h.result v.ensures h.ensures
    _ _ _ _ _ _ c.lengths_of-s.ensures c.clock_of-clock.ensures x.ensures
