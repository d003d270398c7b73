-- What is true of every hello that is read, by the stages of its reading; so that its link is of the circuit's kind.
use denote.Enum.Bare.{sameb}
use Rattle.basics.specs.contracts.kind.CircuitKind.{the_type}
use Prim.Native.Nat.{ℕ}
use native.Mathlib.Omega.{arith}
use mathlib.Core.Path.{◌≡◌, refl, ◌∙◌}
use mathlib.Core.Bool.{true}
use mathlib.Core.List.{List}
use lib.ListN.{take}
use Rattle.basics.specs.Octets.{octet}
use Rattle.tlv.specs.Tlv.{tlvs, cut_at}
use Rattle.basics.proofs.BoolLaws.{by-test}
use Rattle.basics.specs.declared.kind.CircuitKind.{CircuitKind}
use Rattle.basics.specs.declared.kind.CircuitKind.TheVariants.{Lan, P2p}
use Rattle.basics.specs.declared.refusal.Refusal.{Refusal}
use Rattle.basics.specs.declared.refusal.Refusal.TheVariants.{TlvPastEnd, BadTlv}
use Rattle.hello.specs.Header.{layout_of, same_kind, on_circuit, not_hello, bad_length, pdu_length}
use Rattle.hello.specs.Hello.{kind_of, link_on, rule_fault, hello_of, refused_at, tlvs_read, pdu_read, layout_read, hello_read}
use Rattle.hello.specs.declared.header.Layout.{Layout}
use Rattle.hello.specs.declared.read.Hello.{Hello}
use Rattle.std.specs.Prelude.{Option, Some, None, Result, Ok, Err}

-- the derived comparison
pub same-kinds : (a b : CircuitKind) → sameb the_type a b ≡ same_kind a b
same-kinds Lan Lan = refl
same-kinds Lan P2p = refl
same-kinds P2p Lan = refl
same-kinds P2p P2p = refl

same-kind : (a b : CircuitKind) → same_kind a b ≡ true → a ≡ b
same-kind Lan Lan e = refl
same-kind Lan P2p e = cc
same-kind P2p Lan e = cc
same-kind P2p P2p e = refl

fit-kind : (kind : CircuitKind) (x : Option Layout) (l : Layout) → on_circuit kind x ≡ Some l → l.kind ≡ kind
fit-kind kind None l e = cc
fit-kind kind (Some m) l e =
    by-test (same_kind m.kind kind) (λ a. let z : Some m ≡ Some l = rw a at e in let w : m ≡ l = cc in rw (← w) (same-kind _ _ a))
    (λ a. let z : None ≡ Some l = rw a at e in cc)

link-kind : (kind : CircuitKind) (l : Layout) (mac : ℕ) (p : List ℕ) → kind_of (link_on kind l mac p) ≡ kind
link-kind Lan l mac p = refl
link-kind P2p l mac p = refl

-- a refusal, or a hello of which P holds
pub data Reads (P : Hello → Type 0) : Result Hello Refusal → Type 0 where
  refused : {x : Refusal} → Reads P (Err x)
  accepted : {h : Hello} → P h → Reads P (Ok h)

module _ (P : Hello → Type 0) where
  reads-past : (why : ℕ → Refusal) (f : Option ℕ) (x : Result Hello Refusal) → Reads P x → Reads P (refused_at why f x)
  unfolding refused_at
  reads-past why None x p = p
  reads-past why (Some i) x p = refused

  module _ (kind : CircuitKind) (mac : ℕ) (s : List ℕ) (holds : (l : Layout) → l.kind ≡ kind → P (hello_of l mac (take (pdu_length s) s))) where
    reads-layout : (x : Option Layout) → ((l : Layout) → x ≡ Some l → l.kind ≡ kind) → Reads P (layout_read x mac s)
    unfolding layout_read pdu_read tlvs_read
    reads-layout None fit = refused
    reads-layout (Some l) fit =
        by-test (bad_length s l.header) (λ a. rw a refused)
        (λ a. rw a
        (reads-past TlvPastEnd (cut_at (tlvs (take (pdu_length s) s) l.header)) _
        (reads-past BadTlv (rule_fault l (take (pdu_length s) s)) _ (accepted (holds l (fit l refl))))))

    pub reads-by : Reads P (hello_read kind mac s)
    unfolding hello_read
    reads-by =
        by-test (not_hello s) (λ a. rw a refused)
        (λ a. rw a (reads-layout (on_circuit kind (layout_of (octet s 4))) (fit-kind kind (layout_of (octet s 4)))))

-- its link is of its layout's kind
pub hello-kind : (kind : CircuitKind) (l : Layout) (mac : ℕ) (p : List ℕ) → l.kind ≡ kind → kind_of (hello_of l mac p).link ≡ kind
hello-kind kind l mac p e = link-kind l.kind l mac p ∙ e

is_read : (P : Hello → Type 0) (x : Result Hello Refusal) (h : Hello) → Reads P x → x ≡ Ok h → P h
is_read P (Err y) h refused e = absurd (let z : ◌≡◌ {A = ℕ} 0 1 = cc in omega arith)
is_read P (Ok j) h (accepted p) e = let z : j ≡ h = cc in rw (← z) p

pub read-kind : (kind : CircuitKind) (mac : ℕ) (s : List ℕ) (h : Hello) → hello_read kind mac s ≡ Ok h → kind_of h.link ≡ kind
read-kind kind mac s h e =
    is_read (λ (x : Hello). kind_of x.link ≡ kind) _ h
    (reads-by (λ (x : Hello). kind_of x.link ≡ kind) kind mac s (λ l f. hello-kind kind l mac (take (pdu_length s) s) f)) e
