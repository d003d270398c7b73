-- A number that is no MAC is in no list.
use Rattle.std.proofs.Common.{◌+◌, sym, ◌∙◌, arith}
use borrow.Author.Tests.{le-ltb}
use Rattle.basics.specs.Octets.{octet}
use Rattle.tlv.proofs.TlvLaws.{value-length}
use Rattle.neighbours.proofs.SearchLaws.{no-mac}
use Rattle.neighbours.proofs.search.is_listed_in.Goals as goal

pub returns-else-mac-lt-PAST_MAC : goal.returns-else-mac-lt-PAST_MAC
returns-else-mac-lt-PAST_MAC c =
    let s = c.args.pdu.now in
    let at = c.args.at in
    let none = no-mac s (λ k. omega (arith, c.type_inv.pdu k)) (at + 2) (octet s (at + 1)) _ _ (omega (arith, value-length s at (omega arith))) c.if-mac-lt-PAST_MAC.false in
    le-ltb _ _ c.if-mac-lt-PAST_MAC.false ∙ sym none
