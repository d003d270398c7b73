-- The lists of a PDU on the way through them. The reader's loop cites these.
use Rattle.std.proofs.Common.{◌≡◌, ℕ, ◌%◌, Bool, false, ◌||◌, eqb, List, [], ◌∷◌, length, refl, ap, arith, eq-eqb, ne_eqb, Some, None, Result, Ok, Err}
use mathlib.Core.Bool.{or_assoc, or-false}
use Rattle.basics.proofs.BoolLaws.{by-test}
use Rattle.tlv.specs.Tlv.{Tlv, unless}
use Rattle.tlv.proofs.TlvLaws.{Within, nowhere, place, Standing, no_more, stands}
use Rattle.neighbours.specs.Neighbours.{listed_in}
use Rattle.neighbours.specs.Lists.{neighbours_fault, listed, list_read}
use Rattle.tlv.specs.declared.tlvs.BrokenRule.{BrokenRule}
use Rattle.tlv.specs.Tlv.{broken_rule}

-- the first that breaks the rule
pub fault-none : (ts : List Tlv) → ts ≡ [] → neighbours_fault ts ≡ None
unfolding neighbours_fault
fault-none ts e = ap neighbours_fault e

pub fault-here : (t : Tlv) (ts : List Tlv) → (length t.value % 6 ≡ 0 → ⊥) → neighbours_fault (t ∷ ts) ≡ Some t.at
unfolding neighbours_fault
fault-here t ts e = rw (ne_eqb (length t.value % 6) 0 e)

pub fault-next : (t : Tlv) (ts : List Tlv) → length t.value % 6 ≡ 0 → neighbours_fault (t ∷ ts) ≡ neighbours_fault ts
unfolding neighbours_fault
fault-next t ts e = rw (eq-eqb (length t.value % 6) 0 e)

pub fault-within : (n : ℕ) (ts : List Tlv) → Standing n ts → Within n (neighbours_fault ts)
unfolding neighbours_fault
fault-within n [] no_more = nowhere
fault-within n (t ∷ ts) (stands l h) =
    by-test (eqb (length t.value % 6) 0) (λ e. rw e (fault-within n ts h)) (λ e. rw e (place {p = t.at} (omega arith)))

-- the lists, where those before already listed the MAC or not
unfoldable pub list_on : ℕ → Bool → List Tlv → Result Bool BrokenRule
list_on mac before ts = unless (neighbours_fault ts) (Ok (before || listed mac ts)) (Err broken_rule)

module _ (mac : ℕ) (before : Bool) where
  pub list-start : (ts : List Tlv) → list_read mac ts ≡ list_on mac false ts
  unfolding list_read list_on
  list-start ts = refl

  pub list-end : (ts : List Tlv) → length ts ≡ 0 → list_on mac before ts ≡ Ok before
  unfolding list_on neighbours_fault listed unless
  list-end [] e = rw or-false
  list-end (t ∷ ts) e = absurd (omega arith)

  module _ (t : Tlv) (ts : List Tlv) where
    pub list-bad : (length t.value % 6 ≡ 0 → ⊥) → list_on mac before (t ∷ ts) ≡ Err broken_rule
    unfolding list_on neighbours_fault unless
    list-bad e = rw (ne_eqb (length t.value % 6) 0 e)

    pub list-next : length t.value % 6 ≡ 0 → list_on mac before (t ∷ ts) ≡ list_on mac (before || listed_in mac t.value) ts
    unfolding list_on neighbours_fault listed
    list-next e = rw (eq-eqb (length t.value % 6) 0 e, or_assoc)
