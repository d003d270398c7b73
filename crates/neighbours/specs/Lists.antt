-- The IS Neighbours TLVs of a LAN hello, type 6, any number of them (ISO/IEC 10589, 9.5; document 01, "TLVs read").
use Rattle.std.specs.Prelude.{ℕ, ◌%◌, Bool, false, cond, ◌||◌, List, [], ◌∷◌, length, ◌==◌, Option, Some, None, Result, Ok, Err}
use Rattle.tlv.specs.Tlv.{Tlv, unless}
use Rattle.neighbours.specs.Neighbours.{listed_in}
use Rattle.tlv.specs.declared.tlvs.BrokenRule.{BrokenRule}
use Rattle.tlv.specs.Tlv.{broken_rule}

-- length a multiple of 6; the first whose length is not
unfoldable pub neighbours_fault : List Tlv → Option ℕ
neighbours_fault [] = None
neighbours_fault (t ∷ ts) = cond (length t.value % 6 == 0) (neighbours_fault ts) (Some t.at)

-- the MAC is in one of them
unfoldable pub listed : ℕ → List Tlv → Bool
listed mac [] = false
listed mac (t ∷ ts) = listed_in mac t.value || listed mac ts

unfoldable pub list_read : ℕ → List Tlv → Result Bool BrokenRule
list_read mac ts = unless (neighbours_fault ts) (Ok (listed mac ts)) (Err broken_rule)
