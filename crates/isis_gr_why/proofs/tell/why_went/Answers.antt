-- A receive never does it.
use Rattle.isis_gr_why.proofs.ToldLaws.{went-frame}
use Rattle.isis_gr_why.proofs.tell.why_went.Goals as goal

pub returns-in_default : goal.returns-in_default
returns-in_default c = λ mac frame b x y t. went-frame _ _ _ c.in_default.is mac frame b x y t
