-- Document 02, W-206: the positions that refusals 5 and 6 bring, each row a whole frame that is read. Octets count from 1; the TLVs of a P2P hello start at
-- octet 21, those of a LAN's at octet 28.
use Prim.Native.Nat.{ℕ, ◌+◌}
use mathlib.Core.Path.{◌≡◌, refl}
use mathlib.Core.List.{List, [], ◌∷◌, ◌++◌}
use lib.ListN.{length}
use Rattle.basics.specs.Octets.{big, has_bits}
use Rattle.basics.specs.declared.kind.CircuitKind.TheVariants.{Lan, P2p}
use Rattle.basics.specs.declared.refusal.Refusal.TheVariants.{TlvPastEnd, BadTlv}
use Rattle.tlv.specs.Tlv.{tlvs, tlvs_up, cut_at, of_type, lone_fault}
use Rattle.restart_tlv.specs.Flags.{needs_neighbor}
use Rattle.restart_tlv.specs.Restart.{least_length, restart_bad}
use Rattle.neighbours.specs.Lists.{neighbours_fault}
use Rattle.hello.specs.Header.{p2p_layout, layout_of, not_hello, bad_length}
use Rattle.hello.specs.ThreeWay.{three_way_bad, three_way_length}
use Rattle.hello.specs.Reverse.{reverse_bad}
use Rattle.hello.specs.Hello.{fault_on, earlier, tlv_fault, rule_fault, refused_at, tlvs_read, pdu_read, layout_read, hello_read}
use Rattle.std.specs.Prelude.{None, Result, Err}
use Rattle.hello.specs.declared.read.Hello.{Hello}
use Rattle.basics.specs.declared.refusal.Refusal.{Refusal}

-- a P2P hello with this circuit type, and these TLVs
abbrev p2p : ℕ → List ℕ → List ℕ
p2p t ts =
    0x83 ∷ 20 ∷ 1 ∷ 0 ∷ 17 ∷ 1 ∷ 0 ∷ 0 ∷ t ∷ 0x19 ∷ 0x21 ∷ 0x68 ∷ 0x00 ∷ 0x10 ∷ 0x02 ∷ 0 ∷ 27 ∷ 0 ∷ (20 + length ts) ∷ 1 ∷ ts

-- a LAN hello of level 1 with this circuit type, and these TLVs
abbrev lan : ℕ → List ℕ → List ℕ
lan t ts =
    0x83 ∷ 27 ∷ 1 ∷ 0 ∷ 15 ∷ 1 ∷ 0 ∷ 0 ∷ t ∷ 0x19 ∷ 0x21 ∷ 0x68 ∷ 0x00 ∷ 0x10 ∷ 0x02 ∷ 0 ∷ 27 ∷ 0 ∷ (27 + length ts) ∷ 64
    ∷ 0x19 ∷ 0x21 ∷ 0x68 ∷ 0x00 ∷ 0x10 ∷ 0x02 ∷ 1
    ∷ ts

abbrev on_p2p : List ℕ → Result Hello Refusal
on_p2p s = hello_read P2p 0x020000000001 s

abbrev on_lan : List ℕ → Result Hello Refusal
on_lan s = hello_read Lan 0x020000000001 s

-- TLVs that break no rule: three-way Up, of 3 octets; a list of one neighbour, of 8; protocols, of 3
abbrev up : List ℕ
up = 240 ∷ 1 ∷ 0 ∷ []

abbrev neighbour : List ℕ
neighbour = 6 ∷ 6 ∷ 2 ∷ 0 ∷ 0 ∷ 0 ∷ 0 ∷ 3 ∷ []

abbrev protocols : List ℕ
protocols = 129 ∷ 1 ∷ 0xCC ∷ []

-- TLVs that do: a Restart TLV of length 2 with PR, a Reverse Metric TLV of length 4, a list of 5 octets; and a Restart TLV that does not
abbrev bad_restart : List ℕ
bad_restart = 211 ∷ 2 ∷ 8 ∷ 0 ∷ []

abbrev bad_reverse : List ℕ
bad_reverse = 16 ∷ 4 ∷ 0 ∷ 0 ∷ 0 ∷ 5 ∷ []

abbrev bad_list : List ℕ
bad_list = 6 ∷ 5 ∷ 2 ∷ 0 ∷ 0 ∷ 0 ∷ 0 ∷ []

abbrev restart : List ℕ
restart = 211 ∷ 1 ∷ 0 ∷ []

-- on a LAN: each at the first, a middle and the last place
pub record Places : Type 0 where
  pub restarts : (on_lan (lan 1 (bad_restart ++ neighbour ++ protocols)) ≡ Err (BadTlv 28))
      × (on_lan (lan 1 (neighbour ++ bad_restart ++ protocols)) ≡ Err (BadTlv 36))
      × (on_lan (lan 1 (neighbour ++ protocols ++ bad_restart)) ≡ Err (BadTlv 39))
  pub reverses : (on_lan (lan 1 (bad_reverse ++ neighbour ++ protocols)) ≡ Err (BadTlv 28))
      × (on_lan (lan 1 (neighbour ++ bad_reverse ++ protocols)) ≡ Err (BadTlv 36))
      × (on_lan (lan 1 (neighbour ++ protocols ++ bad_reverse)) ≡ Err (BadTlv 39))
  pub lists : (on_lan (lan 1 (bad_list ++ neighbour ++ protocols)) ≡ Err (BadTlv 28))
      × (on_lan (lan 1 (neighbour ++ bad_list ++ protocols)) ≡ Err (BadTlv 36))
      × (on_lan (lan 1 (neighbour ++ protocols ++ bad_list)) ≡ Err (BadTlv 39))
  -- two of them in both orders: the first by its place, whatever its rule
  pub orders : (on_lan (lan 1 (neighbour ++ bad_restart ++ bad_reverse)) ≡ Err (BadTlv 36))
      × (on_lan (lan 1 (neighbour ++ bad_reverse ++ bad_restart)) ≡ Err (BadTlv 36))
      × (on_lan (lan 1 (neighbour ++ bad_restart ++ bad_list)) ≡ Err (BadTlv 36))
      × (on_lan (lan 1 (neighbour ++ bad_list ++ bad_restart)) ≡ Err (BadTlv 36))
      × (on_lan (lan 1 (neighbour ++ bad_reverse ++ bad_list)) ≡ Err (BadTlv 36))
      × (on_lan (lan 1 (neighbour ++ bad_list ++ bad_reverse)) ≡ Err (BadTlv 36))

pub record Positions : Type 0 where
  pub places : Places
  -- circuit type 0, ahead of a bad TLV: octet 9
  pub circuit : (on_p2p (p2p 0 (bad_restart ++ up)) ≡ Err (BadTlv 9)) × (on_lan (lan 4 bad_list) ≡ Err (BadTlv 9))
  -- a TLV seen twice: the second type 211, at octet 27; the second type 240, at octet 24
  pub twice : (on_p2p (p2p 3 (restart ++ up ++ restart)) ≡ Err (BadTlv 27)) × (on_p2p (p2p 3 (up ++ up)) ≡ Err (BadTlv 24))
  -- two type 16: none is bad, but a list behind them at octet 40
  pub ignored : (rule_fault p2p_layout (p2p 3 (up ++ bad_reverse ++ bad_reverse)) ≡ None)
      × (on_lan (lan 1 (bad_reverse ++ bad_reverse ++ bad_list)) ≡ Err (BadTlv 40))
  -- no three-way TLV and none bad: the PDU Length of 23 plus 1, whatever is lent behind it; beside a bad type 211, that one's octet 21
  pub missing : (on_p2p (p2p 3 restart) ≡ Err (BadTlv 24)) × (on_p2p (p2p 3 restart ++ up) ≡ Err (BadTlv 24))
      × (on_p2p (p2p 3 bad_restart) ≡ Err (BadTlv 21))
  -- refusal 5: a value that passes the end, and a lone type octet, both at octet 24; at octet 25 ahead of a bad TLV
  pub past : (on_p2p (p2p 3 (up ++ 211 ∷ 9 ∷ 0 ∷ [])) ≡ Err (TlvPastEnd 24)) × (on_p2p (p2p 3 (up ++ 211 ∷ [])) ≡ Err (TlvPastEnd 24))
      × (on_p2p (p2p 3 (bad_restart ++ 240 ∷ 1 ∷ [])) ≡ Err (TlvPastEnd 25))

pub positions : Positions
unfolding hello_read layout_of not_hello bad_length layout_read pdu_read tlvs_read refused_at big rule_fault tlv_fault earlier fault_on has_bits tlvs tlvs_up cut_at of_type lone_fault needs_neighbor least_length restart_bad three_way_bad three_way_length reverse_bad neighbours_fault
positions =
    record {
      places =
          record {
            restarts = (refl, refl, refl);
            reverses = (refl, refl, refl);
            lists = (refl, refl, refl);
            orders = (refl, refl, refl, refl, refl, refl);
          };
      circuit = (refl, refl);
      twice = (refl, refl);
      ignored = (refl, refl);
      missing = (refl, refl, refl);
      past = (refl, refl, refl);
    }
