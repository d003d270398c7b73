-- The settings, then the entries put back and the head stored: all that `setup_common` says.
use Rattle.control.proofs.SetupLaws.{all_set, sets-up}
use Rattle.control.proofs.TimingLaws.{put-stored}
use mathlib.Core.Path.{refl, sym, ◌∙◌}
use native.Mathlib.Omega.{arith}
use borrow.Rule.Slice.PartMut.{mid_len}
use Rattle.basics.specs.Mask.{circuits}
use Rattle.control.specs.Setup.{settings_on}
use Rattle.control.specs.Words.{entries_place, entries_end, circuits_from}
use Rattle.control.proofs.setup.begin.Goals as goal

pub returns : goal.returns
returns c =
    let m = c.store_settings in
    let ws = c.args.words.now in
    let all = settings_on c.args.s (circuits_from ws 0 circuits) in
    let len = m.auto.words ∙ c.requires.0 in
    let y = c.start_timers-x in
    let t = y.auto.words ∙ mid_len entries_place entries_end m.new.words (omega (arith, len)) in
    let z = c.store_head in
    sets-up all c.requires.1 ws m.new.words _ z.new.words _ _
    (all_set all c.requires.1 ws m.new.words _ refl m.ensures refl refl refl c.serving_for-serving.ensures c.levels_served.ensures)
    (put-stored m.new.words y.new.words len t z.new.words _ _ (sym m.ensures.serving) z.ensures) y.ensures
