-- Two words are written, which no other entry has.
use mathlib.Core.Path.{◌∙◌}
use Rattle.timers.proofs.EntriesLaws.{entry_here, entry-else}
use Rattle.timers.proofs.entries.store_entry.Goals as goal

pub returns : goal.returns
returns c = let a = c.args in (
  entry_here a.words.now a.i a.e.deadline c.second_word.result c.requires.0 c.requires.1 ∙ c.second_word.ensures,
  λ j q. entry-else a.words.now a.i j a.e.deadline c.second_word.result q,
)
