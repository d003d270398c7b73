-- Sets of levels, asked and made level by level, so that a rule of one level stands once (document 01, "What the gateway
-- holds": enabled levels, 1, 2 or both).
use Rattle.std.specs.Prelude.{ℕ, Bool, not, ◌&&◌, ◌||◌, eqb}
use Rattle.basics.specs.declared.levels.Levels.{Levels}

-- level 1 and level 2, as an index; and the number of each
pub data Level : Type 0 where
  First : Level
  Second : Level

abbrev pub level_no : Level → ℕ
level_no First = 1
level_no Second = 2

-- the level is in the set
abbrev pub is_on : Level → Levels → Bool
is_on First l = l.one
is_on Second l = l.two

-- the levels that have a property
abbrev pub levels_with : (Level → Bool) → Levels
levels_with f = record { one = f First; two = f Second }

-- each level has it, and some level has it
abbrev pub every_level : (Level → Bool) → Bool
every_level f = f First && f Second

abbrev pub some_level : (Level → Bool) → Bool
some_level f = f First || f Second

-- there is a level in the set
abbrev pub some_on : Levels → Bool
some_on l = some_level (λ k. is_on k l)

-- the level of the number n is in the set; and that level alone
abbrev pub has_level : Levels → ℕ → Bool
has_level l n = some_level (λ k. eqb n (level_no k) && is_on k l)

abbrev pub only_level : ℕ → Levels
only_level n = levels_with (λ k. eqb n (level_no k))

-- each level of l is in s
abbrev pub within : Levels → Levels → Bool
within l s = every_level (λ k. not (is_on k l) || is_on k s)

-- the levels of either
abbrev pub union : Levels → Levels → Levels
union l s = levels_with (λ k. is_on k l || is_on k s)
