-- Four words are stored; they mean the head, and the rest stays.
use Rattle.control.proofs.HeadLaws.{head-stored}
use Rattle.control.proofs.head.store_head.Goals as goal

pub returns : goal.returns
returns c = head-stored c.args.words.now _ _ _ _ c.requires.0 c.args.h c.requires.1 (rw (c.timer_deadline.ensures, c.timer_deadline-2.ensures, c.t3_deadline.ensures) c.head_word.ensures)
