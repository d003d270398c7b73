-- What was written is read back: the flag, the time and the System ID.
use Prim.Native.Nat.{ℕ, ◌^◌, ◌<◌}
use mathlib.Core.Path.{◌≡◌}
use mathlib.Core.List.{[], ◌∷◌, ◌++◌}
use lib.Count.{ones, ones_in}
use Rattle.basics.specs.Octets.{big, octets_of, has_bits}
use Rattle.tlv.specs.Tlv.{tlvs, tlvs_up, of_type, lone_fault, unless}
use Rattle.basics.proofs.OctetsLaws.{big-octets_of}
use Rattle.restart_tlv.specs.Flags.{RA, PA, counted, without, invalid, needs_neighbor, needs_time}
use Rattle.restart_tlv.specs.Restart.{ack_flag, restart_octets, restart_read, restart_bad, least_length, restart_with, time_of, neighbor_of}
use Rattle.restart_tlv.specs.declared.writer.Ack.{Ack}
use Rattle.restart_tlv.specs.declared.writer.Ack.TheVariants.{Restart, Planned}
use Rattle.restart_tlv.specs.declared.reader.RestartTlv.TheVariants.{Present}
use Rattle.std.specs.Prelude.{Some, Ok}

module _ (f time system : ℕ) (p : time < 2 ^ 16) (q : system < 2 ^ 48) where
  time-back : big 2 (f ∷ octets_of 2 time ++ octets_of 6 system) 1 ≡ time
  time-back = big-octets_of 2 time p (f ∷ []) (octets_of 6 system)

  system-back : big 6 (f ∷ octets_of 2 time ++ octets_of 6 system) 3 ≡ system
  unfolding octets_of
  system-back = big-octets_of 6 system q (f ∷ octets_of 2 time) []

pub round_trip : (ack : Ack) (time system : ℕ) → time < 2 ^ 16 → system < 2 ^ 48
    → restart_read (of_type 211 (tlvs (restart_octets (ack_flag ack) time system) 0)) ≡ Ok (Present (record { bits = ack_flag ack }) time (Some system))
unfolding restart_octets octets_of tlvs tlvs_up of_type lone_fault unless restart_read restart_bad least_length restart_with time_of neighbor_of counted without invalid needs_neighbor needs_time has_bits ones ones_in
round_trip Restart time system p q = rw (time-back RA time system p q, system-back RA time system p q)
round_trip Planned time system p q = rw (time-back PA time system p q, system-back PA time system p q)
