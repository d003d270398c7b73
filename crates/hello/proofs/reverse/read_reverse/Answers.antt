-- The law `reverse-read` goes by how many there are.
use Rattle.hello.proofs.ReadLaws.{reverse-read}
use Rattle.tlv.proofs.TlvLaws.{by_count-other}
use Rattle.hello.proofs.reverse.read_reverse.Goals as goal

pub returns-then-count-eq1 : goal.returns-then-count-eq1
returns-then-count-eq1 c = rw (c.check_reverse.ensures, c.value_of.ensures, reverse-read, ← c.requires, c.if-count-eq1.true)

pub returns : goal.returns
returns c = rw (reverse-read, ← c.requires) (by_count-other _ _ _ c.if-count-eq1.false)
