-- Each field that differs makes the keys differ; where none does, the tag decides.
use Rattle.adjacency.specs.Place.{has_key}
use mathlib.Core.Path.{refl, ◌∙◌}
use Rattle.slots.proofs.ProbeLaws.{record_at, told-false, told-true, other-system, other-mac, other-level, same-key}
use Rattle.slots.proofs.probe.is_key_at.Goals as goal

pub returns-then-words-i : goal.returns-then-words-i
returns-then-words-i c =
    told-false c.args.words.now c.args.i c.requires.1 (has_key c.args.key) refl refl (other-system c.args.key (record_at c.args.words.now c.args.i).key c.if-words-i.true)

pub returns-then-words-i-2 : goal.returns-then-words-i-2
returns-then-words-i-2 c =
    told-false c.args.words.now c.args.i c.requires.1 (has_key c.args.key) refl refl (other-mac c.args.key (record_at c.args.words.now c.args.i).key c.if-words-i-2.true)

pub returns-then-w-key : goal.returns-then-w-key
returns-then-w-key c =
    told-false c.args.words.now c.args.i c.requires.1 (has_key c.args.key) refl refl (other-level c.args.key (record_at c.args.words.now c.args.i).key c.if-w-key.true)

pub returns : goal.returns
returns c =
    c.is_held_word.ensures ∙ told-true c.args.words.now c.args.i c.requires.1 (has_key c.args.key) refl refl (same-key c.args.key (record_at c.args.words.now c.args.i).key c.if-words-i.false c.if-words-i-2.false c.if-w-key.false)
