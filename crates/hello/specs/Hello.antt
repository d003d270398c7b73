-- A hello frame, read whole: the first refusal of 3 to 6 that holds, or the decoded hello (document 01, "Refusals by number",
-- "Hello frames" and "TLVs read").
use Rattle.std.specs.Prelude.{ℕ, min, ◌+◌, ◌%◌, ◌≡◌, List, cond, length, take, eqb, Option, Some, None, Result, Ok, Err}
use Rattle.basics.specs.Octets.{octet, big}
use Rattle.tlv.specs.Tlv.{Tlv, tlvs, cut_at, of_type, unless}
use Rattle.hello.specs.Header.{layout_of, on_circuit, not_hello, bad_length, pdu_length}
use Rattle.restart_tlv.specs.Restart.{restart_fault, restart_in}
use Rattle.hello.specs.ThreeWay.{three_way_fault, three_way_in}
use Rattle.hello.specs.Reverse.{reverse_fault, reverse_in}
use Rattle.neighbours.specs.Lists.{neighbours_fault, listed}
use Rattle.basics.specs.declared.refusal.Refusal.{Refusal}
use Rattle.basics.specs.declared.refusal.Refusal.TheVariants.{NotHello, BadLength, TlvPastEnd, BadTlv}
use Rattle.basics.specs.declared.kind.CircuitKind.{CircuitKind}
use Rattle.basics.specs.declared.kind.CircuitKind.TheVariants.{Lan as LanCircuit, P2p as P2pCircuit}
use Rattle.hello.specs.declared.header.Layout.{Layout}
use Rattle.hello.specs.declared.read.Link.{Link}
use Rattle.hello.specs.declared.read.Link.TheVariants.{Lan, P2p}
use Rattle.hello.specs.declared.read.Hello.{Hello}
use Rattle.tlv.specs.declared.tlvs.BrokenRule.{BrokenRule}
use Rattle.tlv.specs.Tlv.{broken_rule}

-- the TLVs of type k after the header, in a PDU of this layout
abbrev pub of_kind : ℕ → Layout → List ℕ → List Tlv
of_kind k l p = of_type k (tlvs p l.header)

-- Refusal 6. The rules of the types that this layout reads: 240 is stepped over on a LAN, 6 on P2P.
unfoldable pub fault_on : CircuitKind → Layout → List ℕ → Option ℕ
fault_on LanCircuit l p = neighbours_fault (of_kind 6 l p)
fault_on P2pCircuit l p = three_way_fault (length p) (of_kind 240 l p)

abbrev pub link_fault : Layout → List ℕ → Option ℕ
link_fault l p = fault_on l.kind l p

-- the one that stands first in the PDU
unfoldable pub earlier : Option ℕ → Option ℕ → Option ℕ
earlier None b = b
earlier (Some p) None = Some p
earlier (Some p) (Some q) = Some (min p q)

-- the first TLV that breaks a rule, by its place and not by its rule
unfoldable pub tlv_fault : Layout → List ℕ → Option ℕ
tlv_fault l p = earlier (restart_fault (of_kind 211 l p)) (earlier (reverse_fault (of_kind 16 l p)) (link_fault l p))

-- the same, of a PDU that chooses its layout itself
abbrev pub fault_by : Option Layout → List ℕ → Option ℕ
fault_by None p = None
fault_by (Some l) p = tlv_fault l p

abbrev pub fault_in : List ℕ → Option ℕ
fault_in p = fault_by (layout_of (octet p 4)) p

-- where the first rule is broken: the circuit type's low two bits are 0 (octet 9), or else the first TLV that breaks one
unfoldable pub rule_fault : Layout → List ℕ → Option ℕ
rule_fault l p = cond (eqb (octet p 8 % 4) 0) (Some 8) (tlv_fault l p)

-- priority (low seven bits of octet 20) and whether our MAC is listed; the three-way TLV
abbrev pub link_on : CircuitKind → Layout → ℕ → List ℕ → Link
link_on LanCircuit l mac p = Lan l.level (octet p 19 % 128) (listed mac (of_kind 6 l p))
link_on P2pCircuit l mac p = P2p (three_way_in (of_kind 240 l p))

abbrev pub link_of : Layout → ℕ → List ℕ → Link
link_of l mac p = link_on l.kind l mac p

-- the kind of circuit that a link is of
abbrev pub kind_of : Link → CircuitKind
kind_of (Lan level priority listed) = LanCircuit
kind_of (P2p t) = P2pCircuit

unfoldable pub link_read : CircuitKind → Layout → ℕ → List ℕ → Result Link BrokenRule
link_read kind l mac p = unless (fault_on kind l p) (Ok (link_on kind l mac p)) (Err broken_rule)

-- source System ID (octets 10 to 15), Holding Time (16 and 17), and what the TLVs say
abbrev pub hello_of : Layout → ℕ → List ℕ → Hello
hello_of l mac p =
    record {
      system = big 6 p 9;
      hold = big 2 p 15;
      restart = restart_in (of_kind 211 l p);
      reverse = reverse_in (of_kind 16 l p);
      link = link_of l mac p;
    }

-- a refusal at a place, or else what is read. Document 02, W-206: refusals 5 and 6 bring the position of the octet there, counted from 1.
unfoldable pub refused_at : (ℕ → Refusal) → Option ℕ → Result Hello Refusal → Result Hello Refusal
refused_at why None r = r
refused_at why (Some p) r = Err (why (p + 1))

-- the refusal x is the one there, whatever would be read without it
abbrev pub RefusesAt : (ℕ → Refusal) → Option ℕ → Refusal → Type 0
RefusesAt why f x = (r : Result Hello Refusal) → Err x ≡ refused_at why f r

-- refusal 5, then refusal 6, of a PDU whose header passed
unfoldable pub tlvs_read : Layout → ℕ → List ℕ → Result Hello Refusal
tlvs_read l mac p = refused_at BadTlv (rule_fault l p) (Ok (hello_of l mac p))

unfoldable pub pdu_read : Layout → ℕ → List ℕ → Result Hello Refusal
pdu_read l mac p = refused_at TlvPastEnd (cut_at (tlvs p l.header)) (tlvs_read l mac p)

-- refusal 3's last test, then refusal 4. Lent octets past the PDU Length are never read.
unfoldable pub layout_read : Option Layout → ℕ → List ℕ → Result Hello Refusal
layout_read None mac s = Err NotHello
layout_read (Some l) mac s = cond (bad_length s l.header) (Err BadLength) (pdu_read l mac (take (pdu_length s) s))

-- a frame on a circuit of a kind, with our own MAC there
unfoldable pub hello_read : CircuitKind → ℕ → List ℕ → Result Hello Refusal
hello_read kind mac s = cond (not_hello s) (Err NotHello) (layout_read (on_circuit kind (layout_of (octet s 4))) mac s)
