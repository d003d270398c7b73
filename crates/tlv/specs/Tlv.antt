-- The TLVs of a PDU (ISO/IEC 10589, 9.3; document 01, "TLVs read"): type octet, length octet, value. The PDU is the first
-- PDU Length octets of a frame, so octets past it play no part.
use Rattle.std.specs.Prelude.{ℕ, zero, suc, ◌+◌, ◌-◌, ◌≤◌, ◌≡◌, List, [], ◌∷◌, Bool, true, false, cond, length, take, drop, leb, ltb, eqb, Option, Some, None, Result, Ok, Err}
use Rattle.basics.specs.Octets.{octet}
use Rattle.tlv.specs.declared.tlvs.BrokenRule.{BrokenRule}
use Rattle.tlv.specs.declared.tlvs.Counts.{Counts}

-- TLVs in order. `done`: the PDU ends where a TLV ends. `cut p`: the TLV whose type octet is at p passes the end of the
-- PDU. `one p k v r`: a TLV at p of type k with the value v, and then r.
pub data Tlvs : Type 0 where
  done : Tlvs
  cut : ℕ → Tlvs
  one : ℕ → ℕ → List ℕ → Tlvs → Tlvs

-- of a TLV at a position: its value, and where the next one starts
abbrev pub value_at : List ℕ → ℕ → List ℕ
value_at s at = take (octet s (at + 1)) (drop (at + 2) s)

abbrev pub next_at : List ℕ → ℕ → ℕ
next_at s at = at + 2 + octet s (at + 1)

-- at most n TLVs of the PDU s from a position on
unfoldable pub tlvs_up : ℕ → List ℕ → ℕ → Tlvs
tlvs_up zero s at = done
tlvs_up (suc n) s at =
    cond (ltb at (length s))
    (cond (leb (next_at s at) (length s)) (one at (octet s at) (value_at s at) (tlvs_up n s (next_at s at))) (cut at))
    done

-- all of them: there are no more than octets
unfoldable pub tlvs : List ℕ → ℕ → Tlvs
tlvs s at = tlvs_up (length s - at) s at

-- Document 01, refusal 5: a TLV's two octets or its value pass the PDU Length; and which TLV
unfoldable pub cut_at : Tlvs → Option ℕ
cut_at done = None
cut_at (cut p) = Some p
cut_at (one p k v r) = cut_at r

-- a TLV of a known type: where its type octet stands, and its value
pub record Tlv : Type 0 where
  pub at : ℕ
  pub value : List ℕ

-- the TLVs of type k, in order. Document 01, "TLVs read": other types are stepped over.
unfoldable pub of_type : ℕ → Tlvs → List Tlv
of_type k done = []
of_type k (cut p) = []
of_type k (one p j v r) = cond (eqb j k) (record { at = p; value = v } ∷ of_type k r) (of_type k r)

-- how many there are of each type that a hello's reader looks for
abbrev pub counts_of : Tlvs → Counts
counts_of t =
    record {
      neighbours = length (of_type 6 t);
      reverse = length (of_type 16 t);
      restart = length (of_type 211 t);
      threeway = length (of_type 240 t);
    }

-- what a walk over them tells
abbrev pub walk_as : Option ℕ → Counts → Result Counts ℕ
walk_as None n = Ok n
walk_as (Some p) n = Err p

unfoldable pub walk_of : Tlvs → Result Counts ℕ
walk_of t = walk_as (cut_at t) (counts_of t)

-- of the TLVs of one type: where the first stands, its value (no octets where there is none), and whether there are two at least
abbrev pub first_at : List Tlv → Option ℕ
first_at [] = None
first_at (t ∷ ts) = Some t.at

abbrev pub first_value : List Tlv → List ℕ
first_value [] = []
first_value (t ∷ ts) = t.value

abbrev pub several : List Tlv → Bool
several [] = false
several (t ∷ []) = false
several (t ∷ u ∷ ts) = true

-- Of a type that may come at most once: the first TLV that breaks its rule, or else the second one. Rules are tests of a value.
unfoldable pub lone_fault : (List ℕ → Bool) → List Tlv → Option ℕ
lone_fault bad [] = None
lone_fault bad (t ∷ ts) = cond (bad t.value) (Some t.at) (first_at ts)

unfoldable pub is_found : Option ℕ → Bool
is_found None = false
is_found (Some p) = true

-- what a TLV that breaks the rule of its type is read as
abbrev pub broken_rule : BrokenRule
broken_rule = record {}

-- what is read where no rule is broken, or what is answered where one is
unfoldable pub unless : {A : Type 0} → Option ℕ → A → A → A
unless None x y = x
unless (Some p) x y = y

-- What a search for type k from a position on finds. Some p: none before p, one at p that ends by the end of the PDU, and
-- then those after it.
pub record FoundAt (s : List ℕ) (from k p : ℕ) : Type 0 where
  pub same : of_type k (tlvs s from) ≡ of_type k (tlvs s p)
  pub here : of_type k (tlvs s p) ≡ record { at = p; value = value_at s p } ∷ of_type k (tlvs s (next_at s p))
  pub within : next_at s p ≤ length s

abbrev pub Finds : List ℕ → ℕ → ℕ → Option ℕ → Type 0
Finds s from k None = of_type k (tlvs s from) ≡ []
Finds s from k (Some p) = FoundAt s from k p
