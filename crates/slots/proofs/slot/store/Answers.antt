-- The law `held`: the four words stored mean the record, and the other places stay.
use Rattle.slots.proofs.SlotLaws.{held}
use Rattle.slots.proofs.slot.store.Goals as goal

pub returns : goal.returns
returns c =
    rw (c.state_expiry.ensures, c.record_word.ensures.value) (held c.args.words.now c.args.i c.args.entry c.requires.0 c.requires.1 c.record_word.ensures.fit_record)
