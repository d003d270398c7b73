-- One T1 is loaded, changed and stored; then the call is settled.
use mathlib.Core.Path.{ap, ◌∙◌}
use Rattle.basics.specs.declared.levels.Levels.{Levels}
use Rattle.settings.specs.Serving.{served_at}
use Rattle.timer_parts.specs.declared.t1.T1.{T1}
use Rattle.timer_parts.specs.T1.{satisfied, noted}
use Rattle.timers.specs.Timers.{csnp_in}
use Rattle.timers.specs.Memory.{entry_at, timers_of}
use Rattle.timers.proofs.TimersLaws.{closes, t1-stored, csnp_in-is}
use Rattle.timers.proofs.events.notice_csnp.Goals as goal

pub returns : goal.returns
returns c = let a = c.args in
    let st = c.store_t1-mask in
    let l = served_at a.v a.i in
    let e = entry_at a.words.now in
    let f = entry_at st.new.words in
    let changed =
    c.satisfy.ensures ∙ ap (λ (x : Levels). satisfied x c.note.result) c.served_at.ensures
    ∙ ap (satisfied l) (c.note.ensures ∙ ap (noted a.n) c.load_t1-t.ensures) in
    closes (csnp_in a.i a.n) (timers_of a.v a.h e) _ _ _
    (c.with_mask.ensures a.v f ∙ t1-stored a.v a.h st.result a.i e f (λ (x : T1). satisfied l (noted a.n x)) _ changed st.ensures
    ∙ csnp_in-is a.v a.i a.n a.h e)
    (c.settle-end.ensures e f)
