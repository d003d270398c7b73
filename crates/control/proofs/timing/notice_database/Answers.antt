-- The head alone is stored.
use Rattle.control.proofs.TimingLaws.{on-sealed, settles-here}
use Rattle.control.specs.Words.{common_of, entries_of}
use mathlib.Core.Path.{ap, sym, ◌∙◌}
use Rattle.settings.specs.declared.serving.Serving.{Serving}
use Rattle.control.specs.Common.{with_timers}
use Rattle.timers.specs.Memory.{entry_at, timers_at}
use Rattle.control.proofs.timing.notice_database.Goals as goal

pub store_head-requires : goal.store_head-requires
store_head-requires c = (c.requires.0, on-sealed c.args.words.now c.requires.1)

pub returns : goal.returns
returns c =
    let ws = c.args.words.now in
    let x = c.notice_database-x in
    let y = c.store_head in
    let h = c.load_head-h in
    let v = c.serving_of-v in
    settles-here ws y.new.words _ (y.ensures ∙ ap (λ (k : Serving). with_timers (timers_at k x.result.head (entries_of ws)) (common_of ws)) (sym v.ensures)) c.requires.1 v.result h.result v.ensures h.ensures
    _ _ (x.ensures (entry_at (entries_of ws)))
