-- Where a rule is broken: what the searches for it find, and that the place lies in the PDU or right behind it.
use Prim.Native.Nat.{ℕ, min, ◌+◌}
use mathlib.Core.Path.{◌≡◌, refl, ap, sym, ◌∙◌}
use mathlib.Core.List.{List, [], ◌∷◌}
use mathlib.Core.Bool.{true}
use Rattle.std.specs.Option.{IsSome}
use native.Mathlib.Omega.{arith}
use lib.ListN.{length}
use Rattle.basics.proofs.BoolLaws.{by-test}
use Rattle.tlv.specs.Tlv.{Tlv, tlvs, of_type, first_at, lone_fault, FoundAt, is_found}
use Rattle.tlv.proofs.TlvLaws.{found-list, Within, nowhere, place, Standing, no_more, stands, standing, lone-within}
use Rattle.neighbours.proofs.ListsLaws.{fault-within}
use Rattle.restart_tlv.specs.Restart.{restart_bad}
use Rattle.basics.specs.declared.kind.CircuitKind.{CircuitKind}
use Rattle.basics.specs.declared.kind.CircuitKind.TheVariants.{Lan, P2p}
use Rattle.hello.specs.declared.header.Layout.{Layout}
use Rattle.hello.specs.Reverse.{reverse_bad, reverse_fault}
use Rattle.hello.specs.ThreeWay.{three_way_bad, three_way_fault}
use Rattle.hello.specs.Header.{layout_of}
use Rattle.hello.specs.Hello.{of_kind, earlier, fault_on, tlv_fault, fault_by, fault_in, refused_at, RefusesAt}
use Rattle.basics.specs.Octets.{octet}
use Rattle.basics.specs.declared.refusal.Refusal.{Refusal}
use Rattle.basics.specs.declared.refusal.Refusal.TheVariants.{BadTlv}
use Rattle.std.specs.Prelude.{Option, Some, None, Result, Err}
use Rattle.hello.specs.declared.read.Hello.{Hello}

-- ---- what is found

-- of a reverse metric that came twice no rule is broken
reverse-two : (t : Tlv) (ts : List Tlv) (q : ℕ) → first_at ts ≡ Some q → reverse_fault (t ∷ ts) ≡ None
reverse-two t [] q e = absurd (let z : ◌≡◌ {A = ℕ} 0 1 = cc in omega arith)
reverse-two t (u ∷ ts) q e = refl

-- where one came, it goes by the rule of a TLV that may come at most once
pub three-way-some : (end : ℕ) (s : List ℕ) (from p : ℕ) → FoundAt s from 240 p
    → three_way_fault end (of_type 240 (tlvs s from)) ≡ lone_fault three_way_bad (of_type 240 (tlvs s from))
three-way-some end s from p f =
    let e = found-list s from 240 p f in
    ap (three_way_fault end) e ∙ sym (ap (lone_fault three_way_bad) e)

-- where a TLV breaks a rule, there is a place, and a layout
pub found-some : (f : Option ℕ) → is_found f ≡ true → IsSome f
unfolding is_found
found-some None e = e
found-some (Some p) e = refl

pub layout-some : (x : Option Layout) (p : List ℕ) → is_found (fault_by x p) ≡ true → IsSome x
unfolding is_found
layout-some None p e = e
layout-some (Some l) p e = refl

-- ---- the place

reverse-within : (n : ℕ) (ts : List Tlv) → Standing n ts → Within n (reverse_fault ts)
reverse-within n [] no_more = nowhere
reverse-within n (t ∷ []) (stands l h) =
    by-test (reverse_bad t.value) (λ e. rw e (place {p = t.at} (omega arith))) (λ e. rw e nowhere)
reverse-within n (t ∷ u ∷ ts) (stands l h) = nowhere

three-way-within : (n : ℕ) (ts : List Tlv) → Standing n ts → Within n (three_way_fault n ts)
three-way-within n [] no_more = place {p = n} (omega arith)
three-way-within n (t ∷ ts) h = lone-within n three_way_bad (t ∷ ts) h

link-within : (kind : CircuitKind) (l : Layout) (p : List ℕ) → Within (length p) (fault_on kind l p)
unfolding fault_on
link-within Lan l p = fault-within (length p) (of_kind 6 l p) (standing 6 p l.header)
link-within P2p l p = three-way-within (length p) (of_kind 240 l p) (standing 240 p l.header)

earlier-within : (n : ℕ) (a b : Option ℕ) → Within n a → Within n b → Within n (earlier a b)
unfolding earlier
earlier-within n None b nowhere h = h
earlier-within n (Some p) None (place l) nowhere = place {p = p} l
earlier-within n (Some p) (Some q) (place l) (place m) = place {p = min p q} (omega arith)

pub tlv-within : (l : Layout) (p : List ℕ) → Within (length p) (tlv_fault l p)
unfolding tlv_fault
tlv-within l p =
    earlier-within (length p) _ _ (lone-within (length p) restart_bad (of_kind 211 l p) (standing 211 p l.header))
    (earlier-within (length p) _ _ (reverse-within (length p) (of_kind 16 l p) (standing 16 p l.header)) (link-within l.kind l p))

-- the refusal at a place, in octets counted from 1
pub refused-here : (why : ℕ → Refusal) (p : ℕ) (r : Result Hello Refusal) → refused_at why (Some p) r ≡ Err (why (p + 1))
unfolding refused_at
refused-here why p r = refl

pub refuses-at : (why : ℕ → Refusal) (f : Option ℕ) (p : ℕ) (x : Refusal) → f ≡ Some p → x ≡ why (p + 1) → RefusesAt why f x
refuses-at why f p x e q r = rw (e, q) (sym (refused-here why p r))

-- the layout that a PDU chooses is the one that it was read by
module _ (l : Layout) (p : List ℕ) (e : layout_of (octet p 4) ≡ Some l) where
  fault-in : fault_in p ≡ tlv_fault l p
  fault-in = ap (λ (x : Option Layout). fault_by x p) e

  pub is-found-in : is_found (tlv_fault l p) ≡ true → is_found (fault_in p) ≡ true
  is-found-in f = ap is_found fault-in ∙ f

  pub refused-in : (x : Refusal) → RefusesAt BadTlv (fault_in p) x → RefusesAt BadTlv (tlv_fault l p) x
  refused-in x f r = f r ∙ ap (λ (y : Option ℕ). refused_at BadTlv y r) fault-in

pub fit-in : (x : Option Layout) (l : Layout) (p : List ℕ) → x ≡ layout_of (octet p 4) → x ≡ Some l → fault_in p ≡ tlv_fault l p
fit-in x l p e f = fault-in l p (sym e ∙ f)
