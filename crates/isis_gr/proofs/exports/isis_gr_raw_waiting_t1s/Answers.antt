-- The call's answer, told by its number: at most all sixteen T1s run.
use Rattle.isis_gr.proofs.EncodesLaws.{waiting-le}
use Rattle.isis_gr.proofs.exports.isis_gr_raw_waiting_t1s.Goals as goal

pub waiting_word-requires : goal.waiting_word-requires
waiting_word-requires c = waiting-le c.waiting_t1s.ensures
