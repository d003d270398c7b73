-- Refusal 8 passes, then refusal 9, then the record and the reply.
use mathlib.Core.Path.{refl, sym, subst}
use native.Mathlib.Omega.{arith}
use Rattle.room.specs.AcceptWords.{Did}
use Rattle.room.proofs.AcceptLaws.{room-refused, room-full, room-free}
use Rattle.room.proofs.accept.accept_at.Goals as goal

pub returns-in_default : goal.returns-in_default
returns-in_default c =
    let e = c.in_default.is in
    record { is = room-refused _ _ _ e; did = subst (Did _ _ _ _ _ _) (sym e) (refl, refl) }

pub returns-then-at-ge-PLACES : goal.returns-then-at-ge-PLACES
returns-then-at-ge-PLACES c =
    record { is = room-full _ _ _ _ _ c.in-Ok.is (c.requires.1.none (omega (arith, c.if-at-ge-PLACES.true))); did = (refl, refl) }

pub returns : goal.returns
returns c =
    let t = c.requires.1.takes (omega (arith, c.if-at-ge-PLACES.false)) in
    record { is = room-free _ _ _ _ _ c.in-Ok.is t.room; did = (c.keep.ensures, c.answer.ensures) }
