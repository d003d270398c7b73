-- The law `restart-read` goes by how many there are.
use Rattle.restart_tlv.proofs.RestartLaws.{restart-read}
use Rattle.tlv.proofs.TlvLaws.{by_count-more}
use Rattle.restart_tlv.proofs.reader.read_restart.Goals as goal

pub returns-then-count-eq0 : goal.returns-then-count-eq0
returns-then-count-eq0 c = rw (restart-read, ← c.requires, c.if-count-eq0.true)

pub returns-then-count-eq1 : goal.returns-then-count-eq1
returns-then-count-eq1 c = rw (c.check_restart.ensures, c.value_of.ensures, restart-read, ← c.requires, c.if-count-eq1.true)

pub returns : goal.returns
returns c = rw (restart-read, ← c.requires) (by_count-more _ _ _ _ c.if-count-eq0.false c.if-count-eq1.false)
