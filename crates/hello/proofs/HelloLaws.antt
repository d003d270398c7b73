-- The stages of reading a frame: what each finds, and what the next one gets. Each return of `read` cites one of these.
use Prim.Native.Nat.{ℕ, ◌+◌, ◌≤◌, ◌%◌}
use mathlib.Core.Path.{◌≡◌, refl, sym, ap, subst, ◌∙◌}
use mathlib.Core.List.{List}
use mathlib.Core.Bool.{Bool, true, false, not, ◌||◌, true≢false}
use lib.ListN.{length}
use lib.Dec.{ltb, eqb, lit≤}
use borrow.Author.Tests.{ltb-false}
use Rattle.basics.specs.Octets.{octet}
use Rattle.tlv.specs.Tlv.{Tlv, tlvs, cut_at, walk_of, is_found}
use Rattle.tlv.specs.declared.tlvs.Counts.{Counts}
use Rattle.basics.proofs.BoolLaws.{neither, or-true, by-test}
use Rattle.tlv.proofs.TlvLaws.{unless-found, unless-none, unless-is-bad, unless-is-good, walk-is-cut, walk-is-whole}
use Rattle.restart_tlv.specs.Restart.{restart_fault}
use Rattle.hello.proofs.FaultLaws.{refused-here}
use Rattle.hello.specs.Header.{layout_of, not_hello, bad_length, pdu_length}
use Rattle.hello.specs.Reverse.{reverse_fault, reverse_in, reverse_read}
use Rattle.hello.specs.ThreeWay.{three_way_fault, three_way_in, three_way_read}
use Rattle.hello.specs.Hello.{of_kind, earlier, fault_on, link_fault, link_of, link_read, tlv_fault, rule_fault, hello_of, refused_at, tlvs_read, pdu_read}
use Rattle.hello.specs.declared.three_way.ThreeWay.{ThreeWay}
use Rattle.hello.specs.declared.header.Layout.{Layout}
use Rattle.basics.specs.declared.kind.CircuitKind.TheVariants.{Lan as LanCircuit, P2p as P2pCircuit}
use Rattle.neighbours.specs.Lists.{neighbours_fault, listed, list_read}
use Rattle.hello.specs.declared.read.Link.{Link}
use Rattle.hello.specs.declared.read.Link.TheVariants.{Lan as LanLink, P2p as P2pLink}
use Rattle.basics.specs.declared.refusal.Refusal.{Refusal}
use Rattle.basics.specs.declared.refusal.Refusal.TheVariants.{BadTlv, TlvPastEnd}
use Rattle.std.specs.Prelude.{Option, Some, None, Result, Ok, Err}
use Rattle.tlv.specs.Tlv.{broken_rule}
use Rattle.hello.specs.declared.read.Hello.{Hello}
use Rattle.hello.specs.declared.reverse.ReverseMetric.{ReverseMetric}

found-earlier : (a b : Option ℕ) → is_found (earlier a b) ≡ (is_found a || is_found b)
unfolding earlier is_found
found-earlier None b = refl
found-earlier (Some p) None = refl
found-earlier (Some p) (Some q) = refl

-- a place is found, or none
pub at-nothing : (why : ℕ → Refusal) (f : Option ℕ) (r : Result Hello Refusal) → is_found f ≡ false → refused_at why f r ≡ r
unfolding refused_at is_found
at-nothing why None r e = refl
at-nothing why (Some p) r e = absurd (true≢false e)

-- refusal 6, by its parts in the order of the code
module _ (l : Layout) (p : List ℕ) where
  found-tlv : is_found (tlv_fault l p) ≡ (is_found (restart_fault (of_kind 211 l p)) || (is_found (reverse_fault (of_kind 16 l p)) || is_found (link_fault l p)))
  unfolding tlv_fault
  found-tlv =
      let r = restart_fault (of_kind 211 l p) in
      let m = reverse_fault (of_kind 16 l p) in
      let k = link_fault l p in
      found-earlier r (earlier m k) ∙ rw (found-earlier m k)

  pub by-restart : is_found (restart_fault (of_kind 211 l p)) ≡ true → is_found (tlv_fault l p) ≡ true
  by-restart e = found-tlv ∙ rw e

  pub by-reverse : is_found (reverse_fault (of_kind 16 l p)) ≡ true → is_found (tlv_fault l p) ≡ true
  by-reverse e = found-tlv ∙ rw (e, or-true (is_found (restart_fault (of_kind 211 l p))))

  pub by-link : is_found (link_fault l p) ≡ true → is_found (tlv_fault l p) ≡ true
  by-link e = found-tlv ∙ rw (e, or-true (is_found (reverse_fault (of_kind 16 l p))), or-true (is_found (restart_fault (of_kind 211 l p))))

  -- the circuit type comes ahead of any TLV
  at-circuit : eqb (octet p 8 % 4) 0 ≡ true → rule_fault l p ≡ Some 8
  unfolding rule_fault
  at-circuit e = rw e refl

module _ (l : Layout) (mac : ℕ) (p : List ℕ) where
  pub by-circuit : eqb (octet p 8 % 4) 0 ≡ true → tlvs_read l mac p ≡ Err (BadTlv 9)
  unfolding tlvs_read
  by-circuit e = ap (λ (f : Option ℕ). refused_at BadTlv f (Ok (hello_of l mac p))) (at-circuit l p e) ∙ refused-here BadTlv 8 _

  -- the TLVs, where the circuit type passes
  pub past-circuit : eqb (octet p 8 % 4) 0 ≡ false → tlvs_read l mac p ≡ refused_at BadTlv (tlv_fault l p) (Ok (hello_of l mac p))
  unfolding tlvs_read rule_fault
  past-circuit e = rw e

  pub accepted : eqb (octet p 8 % 4) 0 ≡ false → is_found (restart_fault (of_kind 211 l p)) ≡ false → is_found (reverse_fault (of_kind 16 l p)) ≡ false
      → is_found (link_fault l p) ≡ false → tlvs_read l mac p ≡ Ok (hello_of l mac p)
  accepted c r m k = past-circuit c ∙ at-nothing BadTlv (tlv_fault l p) _ (found-tlv l p ∙ rw (r, m, k))

  pub link-is-bad : link_read l.kind l mac p ≡ Err broken_rule → is_found (link_fault l p) ≡ true
  unfolding link_read
  link-is-bad = unless-is-bad (link_fault l p) (link_of l mac p)

  pub link-is-good : (k : Link) → link_read l.kind l mac p ≡ Ok k → (is_found (link_fault l p) ≡ false) × (k ≡ link_of l mac p)
  unfolding link_read
  link-is-good k = unless-is-good (link_fault l p) (link_of l mac p) k

  -- refusal 5, and what follows it
  pub at_cut : (q : ℕ) → walk_of (tlvs p l.header) ≡ Err q → pdu_read l mac p ≡ Err (TlvPastEnd (q + 1))
  unfolding pdu_read
  at_cut q e = rw (walk-is-cut _ q e) (refused-here TlvPastEnd q _)

  pub at-whole : (n : Counts) → walk_of (tlvs p l.header) ≡ Ok n → pdu_read l mac p ≡ tlvs_read l mac p
  unfolding pdu_read
  at-whole n e = at-nothing TlvPastEnd (cut_at (tlvs p l.header)) _ (walk-is-whole _ n e).0

-- the header of a layout that was chosen
chosen_header : Option Layout → ℕ
chosen_header (Some l) = l.header
chosen_header None = 20

chosen-least : (t : ℕ) → 20 ≤ chosen_header (layout_of t)
unfolding layout_of chosen_header
chosen-least t =
    by-test (eqb (t % 32) 15) (λ a. rw a (lit≤ tt))
    (λ a. by-test (eqb (t % 32) 16) (λ b. rw (a, b) (lit≤ tt)) (λ b. by-test (eqb (t % 32) 17) (λ c. rw (a, b, c) (lit≤ tt)) (λ c. rw (a, b, c) (lit≤ tt))))

pub header-least : (t : ℕ) (x : Option Layout) (l : Layout) → x ≡ layout_of t → x ≡ Some l → 20 ≤ l.header
unfolding chosen_header
header-least t x l e f = subst (λ (n : ℕ). 20 ≤ n) (ap chosen_header (sym e ∙ f)) (chosen-least t)

module _ (s : List ℕ) where
  pub eight : not_hello s ≡ false → 8 ≤ length s
  unfolding not_hello
  eight e = ltb-false (length s) 8 (neither (ltb (length s) 8) _ e).0

  -- the header lies within the lent octets and the PDU, the PDU within the lent octets, and it is no longer than 1,492
  pub record Lengths (h : ℕ) : Type 0 where
    pub header : h ≤ length s
    pub low : h ≤ pdu_length s
    pub lent : pdu_length s ≤ length s
    pub high : pdu_length s ≤ 1492

  pub lengths : (h : ℕ) → bad_length s h ≡ false → Lengths h
  unfolding bad_length
  lengths h e =
      let e₁ = neither (ltb (length s) h) _ e in
      let e₂ = neither (not (eqb (octet s 1) h)) _ e₁.1 in
      let e₃ = neither (ltb (pdu_length s) h) _ e₂.1 in
      let e₄ = neither (ltb (length s) (pdu_length s)) _ e₃.1 in
      record {
        header = ltb-false (length s) h e₁.0;
        low = ltb-false (pdu_length s) h e₃.0;
        lent = ltb-false (length s) (pdu_length s) e₄.0;
        high = ltb-false 1492 (pdu_length s) e₄.1;
      }

-- the readings of the Reverse Metric and the three-way TLV taken apart
module _ (ts : List Tlv) where
  pub reverse-is-bad : reverse_read ts ≡ Err broken_rule → is_found (reverse_fault ts) ≡ true
  unfolding reverse_read
  reverse-is-bad = unless-is-bad (reverse_fault ts) (reverse_in ts)

  pub reverse-is-good : (r : Option ReverseMetric) → reverse_read ts ≡ Ok r → (is_found (reverse_fault ts) ≡ false) × (r ≡ reverse_in ts)
  unfolding reverse_read
  reverse-is-good r = unless-is-good (reverse_fault ts) (reverse_in ts) r

module _ (end : ℕ) (ts : List Tlv) where
  three-way-is-bad : three_way_read end ts ≡ Err broken_rule → is_found (three_way_fault end ts) ≡ true
  unfolding three_way_read
  three-way-is-bad = unless-is-bad (three_way_fault end ts) (three_way_in ts)

  three-way-is-good : (r : ThreeWay) → three_way_read end ts ≡ Ok r → (is_found (three_way_fault end ts) ≡ false) × (r ≡ three_way_in ts)
  unfolding three_way_read
  three-way-is-good r = unless-is-good (three_way_fault end ts) (three_way_in ts) r

-- what depends on the circuit's kind
module _ (mac : ℕ) (ts : List Tlv) where
  list-is-bad : list_read mac ts ≡ Err broken_rule → is_found (neighbours_fault ts) ≡ true
  unfolding list_read
  list-is-bad = unless-is-bad (neighbours_fault ts) (listed mac ts)

  list-is-good : (b : Bool) → list_read mac ts ≡ Ok b → (is_found (neighbours_fault ts) ≡ false) × (b ≡ listed mac ts)
  unfolding list_read
  list-is-good b = unless-is-good (neighbours_fault ts) (listed mac ts) b

module _ (l : Layout) (mac : ℕ) (p : List ℕ) where
  pub lan-bad : list_read mac (of_kind 6 l p) ≡ Err broken_rule → link_read LanCircuit l mac p ≡ Err broken_rule
  unfolding link_read fault_on
  lan-bad e = unless-found _ _ _ (list-is-bad _ _ e)

  pub lan-good : (b : Bool) → list_read mac (of_kind 6 l p) ≡ Ok b → link_read LanCircuit l mac p ≡ Ok (LanLink l.level (octet p 19 % 128) b)
  unfolding link_read fault_on
  lan-good b e =
      let g = list-is-good _ _ b e in
      unless-none _ _ _ g.0 ∙ rw g.1

  pub p2p-bad : three_way_read (length p) (of_kind 240 l p) ≡ Err broken_rule → link_read P2pCircuit l mac p ≡ Err broken_rule
  unfolding link_read fault_on
  p2p-bad e = unless-found _ _ _ (three-way-is-bad _ _ e)

  pub p2p-good : (r : ThreeWay) → three_way_read (length p) (of_kind 240 l p) ≡ Ok r → link_read P2pCircuit l mac p ≡ Ok (P2pLink r)
  unfolding link_read fault_on
  p2p-good r e =
      let g = three-way-is-good _ _ r e in
      unless-none _ _ _ g.0 ∙ rw g.1
