-- CSNPs were ordered, or the line decides.
use mathlib.Core.Path.{ap}
use Rattle.model.specs.Numbers.{is_ordered}
use Rattle.own_words.specs.Words.{gateway_of}
use Rattle.isis_gr_why.proofs.SilentLaws.{silent-ordered, silent-fits}
use Rattle.isis_gr_why.proofs.frames.why_unordered.Goals as goal

pub returns-in_default : goal.returns-in_default
returns-in_default c = let a = c.args in λ frame b x p q n. silent-ordered (gateway_of a.before.now) a.n a.mac frame b a.orders (ap is_ordered c.in_default.is) x p q

pub returns : goal.returns
returns c =
    let a = c.args in
    λ frame b x p q n.
    silent-fits (gateway_of a.before.now) a.n a.mac frame b a.orders (ap is_ordered c.in-None.is) _ c.standing_in-stood.ensures _
    c.line_told-line.ensures _ _ c.why_by.ensures x p n q
