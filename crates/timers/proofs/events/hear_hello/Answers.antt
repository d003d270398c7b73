-- One T1 is loaded, perhaps begun, changed and stored, and T3 changed; then the call is settled.
use Prim.Native.Nat.{◌+◌}
use mathlib.Core.Path.{ap, ◌∙◌}
use mathlib.Core.Bool.{Bool, ◌&&◌}
use Rattle.basics.specs.declared.levels.Levels.{Levels}
use Rattle.settings.specs.Mode.{is_restarting}
use Rattle.settings.specs.Serving.{served_at}
use Rattle.timer_parts.specs.T1.{begun_by, heard_t1, freed_by}
use Rattle.timer_parts.specs.declared.t1.T1.{T1}
use Rattle.timers.specs.Timers.{heard_in, up_in, first_t1}
use Rattle.timers.specs.Hellos.{begin_hello}
use Rattle.timers.specs.Outcome.{overloaded, freed_with}
use Rattle.timers.specs.Memory.{entry_at, timers_of}
use Rattle.timers.proofs.TimersLaws.{closes, hears, t1-stored, heard_in-is}
use Rattle.timers.proofs.events.hear_hello.Goals as goal

pub returns : goal.returns
unfolding freed_with
returns c = let a = c.args in
    let st = c.store_t1-mask in
    let ld = c.load_t1-t in
    let is = c.is_starting in
    let bb = c.begun_by-first in
    let sv = c.served_at in
    let e = entry_at a.words.now in
    let f = entry_at st.new.words in
    let g : (T1 → T1) = λ x. heard_t1 (served_at a.v a.i) a.d (first_t1 a.s a.clock a.h.mode a.rose x) in
    let first =
    bb.ensures ∙ ap (λ (b : Bool). begun_by (b && a.rose) (a.clock + a.s.t1) ld.result) is.ensures
    ∙ ap (first_t1 a.s a.clock a.h.mode a.rose) ld.ensures in
    let heard =
    c.hear_t1.ensures ∙ ap (λ (l : Levels). heard_t1 l a.d bb.result) sv.ensures
    ∙ ap (heard_t1 (served_at a.v a.i) a.d) first in
    let stored = c.with_mask.ensures a.v f ∙ t1-stored a.v a.h st.result a.i e f g _ heard st.ensures in
    hears a.v a.s a.clock a.i a.rose a.d a.h e _ _ _ _ _ c.requires.2
    (closes (heard_in a.s a.clock a.i a.rose a.d) (timers_of a.v a.h e) _ _ _
    (c.with_t3.ensures a.v f ∙ heard_in-is a.v a.s a.clock a.i a.rose a.d a.h e _ _ stored c.hear_t3.ensures)
    (c.settle-end.ensures e f))
    (c.overload_for.ensures ∙ ap (λ (b : Bool). overloaded (b && a.rose) c.settle-end.result.outcome) is.ensures)
    (c.freed_by-freed.ensures ∙ ap (λ (b : Bool). freed_by b a.d bb.result) c.is_restarting.ensures
    ∙ ap (freed_by (is_restarting a.h.mode) a.d) first)
    (c.begin_hello-hello.ensures ∙ ap (λ (b : Bool). begin_hello (b && a.rose) ld.result) is.ensures
    ∙ ap (begin_hello (up_in a.h.mode a.rose)) ld.ensures)
