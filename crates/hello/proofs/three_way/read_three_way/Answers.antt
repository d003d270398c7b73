-- The law `three-way-read` goes by how many there are.
use Rattle.hello.proofs.ReadLaws.{three-way-read}
use Rattle.tlv.proofs.TlvLaws.{by_count-other}
use Rattle.hello.proofs.three_way.read_three_way.Goals as goal

pub returns-then-count-eq1 : goal.returns-then-count-eq1
returns-then-count-eq1 c = rw (c.check_three_way.ensures, c.value_of.ensures, three-way-read, ← c.requires, c.if-count-eq1.true)

pub returns : goal.returns
returns c = rw (three-way-read, ← c.requires) (by_count-other _ _ _ c.if-count-eq1.false)
