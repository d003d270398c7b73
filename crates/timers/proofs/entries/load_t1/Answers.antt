-- A digit and an entry are one T1.
use native.Mathlib.Omega.{arith}
use mathlib.Core.Path.{sym}
use Rattle.timers.specs.Memory.{entry_at, t1_bits}
use Rattle.timers.proofs.T1sLaws.{get_or-joined, length-bits}
use Rattle.timers.proofs.entries.load_t1.Goals as goal

pub returns : goal.returns
returns c = let a = c.args in
    rw (c.has_place.ensures, c.load_entry.ensures)
    (sym (get_or-joined (t1_bits a.mask) (entry_at a.words.now) a.i (rw length-bits (omega arith))))
