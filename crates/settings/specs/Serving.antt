-- Which T1s the circuits have, and the levels that each serves (document 02, W-202; RFC 8706, 3.1 and 3.3.3). A circuit has two places. "Each LAN
-- circuit now holds a T1, tries and acknowledgement per level": level 1's in the first place, level 2's in the second. "P2P keeps one of each", for
-- all its levels: in the first.
use Rattle.std.specs.Prelude.{ℕ, ◌+◌, ◌*◌, false, cond, not, List, [], ◌∷◌, eqb, get_or}
use Rattle.std.specs.Int.Bits.{bit_or}
use Rattle.basics.specs.Bits.{bit_of}
use Rattle.basics.specs.Levels.{Level, First, Second, levels_with}
use Rattle.basics.specs.Mask.{place_bits}
use Rattle.basics.specs.declared.kind.CircuitKind.{CircuitKind}
use Rattle.basics.specs.declared.kind.CircuitKind.TheVariants.{Lan, P2p}
use Rattle.basics.specs.declared.levels.Levels.{Levels}
use Rattle.settings.specs.declared.circuit.Circuit.{Circuit}
use Rattle.settings.specs.declared.serving.Serving.{Serving}

-- the place of circuit i's T1 at a level, by the level's number; circuits and places count from 0
abbrev pub t1_place : CircuitKind → ℕ → ℕ → ℕ
t1_place Lan i level = cond (eqb level 2) (2 * i + 1) (2 * i)
t1_place P2p i level = 2 * i

-- the masks with those of one circuit more, in the lowest places
unfoldable pub serving_with : CircuitKind → Levels → Serving → Serving
serving_with Lan l v = record { one = bit_of l.one + 4 * v.one; two = 2 * bit_of l.two + 4 * v.two }
serving_with P2p l v = record { one = bit_of l.one + 4 * v.one; two = bit_of l.two + 4 * v.two }

unfoldable pub serving : List Circuit → Serving
serving [] = record { one = 0; two = 0 }
serving (c ∷ cs) = serving_with c.kind c.levels (serving cs)

-- the mask of the T1s that serve a level, and of all of them
abbrev pub serves_of : Level → Serving → ℕ
serves_of First v = v.one
serves_of Second v = v.two

abbrev pub all_t1s : Serving → ℕ
all_t1s v = bit_or v.one v.two

-- the levels that some T1 serves
abbrev pub levels_served : Serving → Levels
levels_served v = levels_with (λ k. not (eqb (serves_of k v) 0))

-- the levels that the T1 in place i serves; none where there is no T1
unfoldable pub served_at : Serving → ℕ → Levels
served_at v i = levels_with (λ k. get_or (place_bits (serves_of k v)) i false)
