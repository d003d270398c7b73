-- The fixed header of a hello (ISO/IEC 10589, 9.5 to 9.7; document 01, "Hello frames"), and refusals 3 and 4. Octet n of the
-- documents stands at position n - 1.
use Rattle.std.specs.Prelude.{ℕ, ◌%◌, ◌≤◌, List, Bool, true, false, not, cond, ◌||◌, length, ltb, eqb, Option, Some, None}
use Rattle.basics.specs.Octets.{octet, big}
use Rattle.basics.specs.declared.kind.CircuitKind.{CircuitKind}
use Rattle.basics.specs.declared.kind.CircuitKind.TheVariants.{Lan, P2p}
use Rattle.hello.specs.declared.header.Layout.{Layout}

-- Document 01, "Hello frames": "The layout is chosen by PDU type (low five bits): 15 and 16 are LAN level 1 and 2, header 27 octets; 17 is
-- P2P, header 20." A P2P hello has no level.
abbrev pub lan_layout : ℕ → Layout
lan_layout level = record { header = 27; level = level; kind = Lan }

abbrev pub p2p_layout : Layout
p2p_layout = record { header = 20; level = 0; kind = P2p }

unfoldable pub layout_of : ℕ → Option Layout
layout_of t =
    cond (eqb (t % 32) 15) (Some (lan_layout 1)) (cond (eqb (t % 32) 16) (Some (lan_layout 2)) (cond (eqb (t % 32) 17) (Some p2p_layout) None))

-- refusal 3: "PDU type not fit for the circuit"
abbrev pub same_kind : CircuitKind → CircuitKind → Bool
same_kind Lan Lan = true
same_kind Lan P2p = false
same_kind P2p Lan = false
same_kind P2p P2p = true

abbrev pub on_circuit : CircuitKind → Option Layout → Option Layout
on_circuit kind (Some l) = cond (same_kind l.kind kind) (Some l) None
on_circuit kind None = None

abbrev pub id_length_ok : ℕ → Bool
id_length_ok n = eqb n 0 || eqb n 6

-- refusal 3, but for the PDU type: under 8 octets; octet 1 not 0x83; octet 3 or 6 not 1; ID length (octet 4) not 0 or 6
unfoldable pub not_hello : List ℕ → Bool
not_hello s =
    ltb (length s) 8
    || (not (eqb (octet s 0) 0x83)
    || (not (eqb (octet s 2) 1)
    || (not (eqb (octet s 5) 1)
    || not (id_length_ok (octet s 3)))))

-- octets 18 and 19
abbrev pub pdu_length : List ℕ → ℕ
pdu_length s = big 2 s 17

-- the octets of a PDU that refusal 4 lets pass: its header up to octet 20, and no more than 1,492
abbrev pub Sized : List ℕ → Type 0
Sized p = (20 ≤ length p) × (length p ≤ 1492)

-- refusal 4: under the fixed header; octet 2 not the header length; PDU Length below the header, above the lent octets or
-- above 1,492
unfoldable pub bad_length : List ℕ → ℕ → Bool
bad_length s header =
    ltb (length s) header
    || (not (eqb (octet s 1) header)
    || (ltb (pdu_length s) header || (ltb (length s) (pdu_length s) || ltb 1492 (pdu_length s))))
