-- What `all` gives over the first circuits.
use borrow.Author.Rules.{rules}
use borrow.Author.Tests.{tests}
use mathlib.Core.Bool.{Bool, ◌&&◌}
use mathlib.Core.List.{List, [], ◌∷◌}
use mathlib.Core.Path.{◌≡◌, refl, ap, ◌∙◌}
use Rattle.std.specs.List.{list_all}
use Rattle.std.proofs.lemmas.Iterator.{YieldsList-from_slice}
use Rattle.std.proofs.lemmas.Iterator.Search.{all_from_yields_List}
use Rattle.basics.specs.Lists.{every}
use Rattle.settings.specs.Settings.{circuit_ok}
use Rattle.settings.proofs.setup.are_circuits_ok.Goals as goal

all-every : {A : Type 0} (p : A → Bool) (xs : List A) → list_all p xs ≡ every p xs
unfolding every
all-every p [] = refl
all-every p (x ∷ xs) = ap (λ (b : Bool). p x && b) (all-every p xs)

pub returns : goal.returns
returns c = all_from_yields_List circuit_ok _ _ _ c.all.ensures.ran (YieldsList-from_slice _ cc) (λ x b q k. search (rules, tests)) ∙ all-every circuit_ok _
