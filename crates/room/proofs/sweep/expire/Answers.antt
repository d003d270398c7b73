-- Where no record has expired, the law `sweep-none`: the room is its own sweep.
use Rattle.slots.specs.Slots.{table_of}
use Rattle.adjacency.specs.Place.{expired_by}
use Rattle.room.proofs.SweepLaws.{sweep-none}
use Rattle.std.proofs.Common.{rules}
use mathlib.Core.Path.{sym}
use Rattle.room.proofs.sweep.expire.Goals as goal

pub returns-then-not-is_due : goal.returns-then-not-is_due
returns-then-not-is_due c =
    let none = c.is_due.ensures (c.if-not-is_due.true) in
    record { any = sym none; left = sweep-none (expired_by c.args.clock) (table_of c.args.words.now) none }

pub returns : goal.returns
returns c = c.sweep_in.ensures (expired_by c.args.clock) (λ ws i r len lt told. search rules)
