-- On P2P the definition does not ask the room; on a LAN the laws `csnps-outranked` and `csnps-ours`.
use Rattle.adjacency.specs.Duty.{csnps_of}
use Rattle.room.specs.Accept.{csnps_in}
use Rattle.room.proofs.AcceptLaws.{csnps-outranked, csnps-ours}
use mathlib.Core.Path.{sym, ap, ◌∙◌}
use Rattle.room.proofs.duty.line_one_csnps.Goals as goal
use Rattle.std.specs.Prelude.{Some}

pub returns-in_default : goal.returns-in_default
unfolding csnps_in csnps_of
returns-in_default c = rw c.in_default.is

pub returns-then-is_outranked : goal.returns-then-is_outranked
returns-then-is_outranked c =
    csnps-outranked _ _ _ _ _ _ _ c.in-Lan.is (sym c.is_outranked.ensures ∙ c.if-is_outranked.true)

pub returns : goal.returns
returns c =
    ap Some c.only_level.ensures
    ∙ csnps-ours _ _ _ _ _ _ _ c.in-Lan.is (sym c.is_outranked.ensures ∙ c.if-is_outranked.false) c.requires.1
