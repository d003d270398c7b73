-- The digits are packed as `entry_of` unpacks them.
use native.Mathlib.Omega.{arith}
use Rattle.timers.proofs.EntriesLaws.{packs}
use Rattle.timers.proofs.entries.second_word.Goals as goal

pub returns : goal.returns
returns c = let e = c.args.e in
    rw (c.digit.ensures.0, c.digit-2.ensures.0, c.digit-3.ensures.0, c.digit-4.ensures.0)
    (packs e.deadline e.tries e.acked e.sets.one e.sets.two e.begun (omega arith))
