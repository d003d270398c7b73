-- Document 01, "Sample runs", C8: the Restart TLV's lengths, each in a whole P2P hello that is evaluated.
use Prim.Native.Nat.{ℕ, ◌+◌}
use mathlib.Core.Path.{◌≡◌, refl}
use mathlib.Core.List.{List, [], ◌∷◌}
use lib.ListN.{length}
use lib.Count.{ones, ones_in}
use Rattle.basics.specs.Octets.{big, has_bits}
use Rattle.tlv.specs.Tlv.{tlvs, tlvs_up, cut_at, of_type, lone_fault}
use Rattle.restart_tlv.specs.Flags.{counted, without, invalid, needs_neighbor, needs_time}
use Rattle.restart_tlv.specs.Restart.{least_length, restart_bad, restart_with, time_of, neighbor_of}
use Rattle.restart_tlv.specs.declared.reader.RestartTlv.TheVariants.{Present}
use Rattle.hello.specs.Header.{layout_of, not_hello, bad_length}
use Rattle.hello.specs.ThreeWay.{three_way_bad, three_way_length, state_of, identifiers_of}
use Rattle.hello.specs.Hello.{fault_on, earlier, tlv_fault, rule_fault, refused_at, tlvs_read, pdu_read, layout_read, hello_read}
use Rattle.basics.specs.declared.kind.CircuitKind.TheVariants.{P2p as P2pCircuit}
use Rattle.hello.specs.declared.read.Link.TheVariants.{P2p}
use Rattle.basics.specs.declared.refusal.Refusal.TheVariants.{BadTlv}
use Rattle.hello.specs.declared.three_way.ThreeWayState.TheVariants.{Up}
use Rattle.hello.specs.declared.three_way.Identifiers.TheVariants.{Absent as NoIdentifiers}
use Rattle.std.specs.Prelude.{None, Result, Ok, Err}
use Rattle.hello.specs.declared.read.Hello.{Hello}
use Rattle.basics.specs.declared.refusal.Refusal.{Refusal}

-- a P2P hello of the neighbour 192168001002 with Holding Time 27, three-way Up, and a Restart TLV with this value
abbrev hello_with : List ℕ → List ℕ
hello_with v =
    0x83 ∷ 20 ∷ 1 ∷ 0 ∷ 17 ∷ 1 ∷ 0 ∷ 0 ∷ 3 ∷ 0x19 ∷ 0x21 ∷ 0x68 ∷ 0x00 ∷ 0x10 ∷ 0x02 ∷ 0 ∷ 27 ∷ 0 ∷ (25 + length v) ∷ 1
    ∷ 240 ∷ 1 ∷ 0
    ∷ 211 ∷ length v ∷ v

abbrev reading : List ℕ → Result Hello Refusal
reading v = hello_read P2pCircuit 0x020000000001 (hello_with v)

-- length 0; 1 with RA; 2 with PR; 10: all refused 6, at octet 24, where the Restart TLV starts. 3 with PR: accepted.
pub c8 : (reading [] ≡ Err (BadTlv 24))
    × (reading (2 ∷ []) ≡ Err (BadTlv 24))
    × (reading (8 ∷ 1 ∷ []) ≡ Err (BadTlv 24))
    × (reading (0 ∷ 0 ∷ 0 ∷ 0 ∷ 0 ∷ 0 ∷ 0 ∷ 0 ∷ 0 ∷ 0 ∷ []) ≡ Err (BadTlv 24))
    × (reading (8 ∷ 1 ∷ 44 ∷ [])
    ≡ Ok
    (record {
      system = 0x192168001002;
      hold = 27;
      restart = Present (record { bits = 8 }) 300 None;
      reverse = None;
      link = P2p (record { state = Up; ids = NoIdentifiers });
    }))
unfolding hello_read layout_of not_hello bad_length layout_read pdu_read tlvs_read refused_at rule_fault tlv_fault earlier fault_on big has_bits tlvs tlvs_up cut_at of_type lone_fault counted without invalid needs_neighbor needs_time least_length restart_bad restart_with time_of neighbor_of three_way_bad three_way_length state_of identifiers_of ones ones_in
c8 = (refl, refl, refl, refl, refl)
