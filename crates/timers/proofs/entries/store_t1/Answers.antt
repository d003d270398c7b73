-- A digit and an entry changed are one T1 changed.
use Rattle.timers.specs.Memory.{entry_at}
use Rattle.timers.proofs.T1sLaws.{joined-stored}
use Rattle.timers.proofs.entries.store_t1.Goals as goal

pub returns : goal.returns
returns c = let a = c.args in
    let s = c.store_entry in
    joined-stored a.mask c.put_place.result (entry_at a.words.now) (entry_at s.new.words) a.i a.t c.requires.1 c.put_place.ensures s.ensures.0 s.ensures.1
