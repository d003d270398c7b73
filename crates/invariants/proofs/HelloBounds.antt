-- What a read hello brings: its Holding Time and the Remaining Time of its Restart TLV are at most two octets long, and it is of the circuit's
-- kind.
use Prim.Native.Nat.{ℕ, zero, suc, ◌+◌, ◌≤◌}
use native.Mathlib.Omega.{arith}
use mathlib.Core.Path.{◌≡◌}
use mathlib.Core.List.{List, [], ◌∷◌}
use lib.ListN.{length, take, drop, get_or-eq_default, length-take}
use lib.Seq.{get_or-take, get_or-drop}
use lib.Dec.{leb, ltb, eqb}
use borrow.Author.Tests.{ltb-true, ltb-false}
use Rattle.basics.specs.Octets.{octet, big}
use Rattle.tlv.specs.Tlv.{Tlv, tlvs_up, tlvs, of_type, value_at, next_at}
use Rattle.basics.proofs.BoolLaws.{by-test}
use Rattle.basics.proofs.OctetsLaws.{big_lt}
use Rattle.restart_tlv.specs.Flags.{counted, invalid, needs_time}
use Rattle.restart_tlv.specs.Restart.{time_of, restart_with, restart_in}
use Rattle.hello.specs.Header.{pdu_length}
use Rattle.hello.specs.Hello.{of_kind, kind_of, hello_of, hello_read}
use Rattle.hello.proofs.KindLaws.{Reads, reads-by, hello-kind}
use Rattle.basics.specs.declared.kind.CircuitKind.{CircuitKind}
use Rattle.hello.specs.declared.header.Layout.{Layout}
use Rattle.hello.specs.declared.read.Hello.{Hello}
use Rattle.adjacency.specs.Marks.{time_in}
use Rattle.invariants.specs.Invariants.{Octets}

-- ---- parts of a frame are octets

take-octets : (s : List ℕ) (n : ℕ) → Octets s → Octets (take n s)
take-octets s n h i =
    by-test (ltb i n) (λ a. rw (get_or-take n s i 0 (ltb-true i n a)) (h i))
    (λ a. rw (get_or-eq_default (take n s) 0 (short (ltb-false i n a))) (omega arith))
  where
    short : n ≤ i → length (take n s) ≤ i
    short l = rw length-take (omega arith)

drop-octets : (s : List ℕ) (n : ℕ) → Octets s → Octets (drop n s)
drop-octets s n h i = rw (get_or-drop n s i 0) (h (n + i))

two-octets : (s : List ℕ) (at : ℕ) → Octets s → big 2 s at ≤ 65535
two-octets s at h = omega (arith, big_lt s at h 2)

-- ---- the TLVs

data Values : List Tlv → Type 0 where
  none : Values []
  more : {t : Tlv} {ts : List Tlv} → Octets t.value → Values ts → Values (t ∷ ts)

values-up : (n k : ℕ) (s : List ℕ) (at : ℕ) → Octets s → Values (of_type k (tlvs_up n s at))
unfolding tlvs_up of_type
values-up zero k s at h = none
values-up (suc n) k s at h =
    let z = values-up n k s (next_at s at) h in
    let v : Octets (value_at s at) = take-octets (drop (at + 2) s) (octet s (at + 1)) (drop-octets s (at + 2) h) in
    by-test (ltb at (length s))
    (λ a. by-test (leb (next_at s at) (length s))
    (λ b. by-test (eqb (octet s at) k) (λ c. rw (a, b, c) (more v z)) (λ c. rw (a, b, c) z))
    (λ b. rw (a, b) none))
    (λ a. rw a none)

time-with : (f : ℕ) (v : List ℕ) → Octets v → time_in (restart_with f v) ≤ 65535
unfolding restart_with time_of
time-with f v h =
    let z = two-octets v 1 h in
    by-test (invalid f) (λ a. rw a (omega arith))
    (λ a. by-test (needs_time f) (λ b. rw (a, b) z) (λ b. rw (a, b) (omega arith)))

time-in : (ts : List Tlv) → Values ts → time_in (restart_in ts) ≤ 65535
time-in [] none = omega arith
time-in (t ∷ ts) (more v z) = time-with (counted (octet t.value 0)) t.value v

-- ---- the frame

-- what is true of every hello on a circuit of a kind
abbrev pub Brief : CircuitKind → Hello → Type 0
Brief kind h = (h.hold ≤ 65535) × (time_in h.restart ≤ 65535) × (kind_of h.link ≡ kind)

module _ (mac : ℕ) (kind : CircuitKind) (s : List ℕ) (h : Octets s) where
  brief-of : (l : Layout) → l.kind ≡ kind → Brief kind (hello_of l mac (take (pdu_length s) s))
  unfolding tlvs
  brief-of l e =
      let p = take (pdu_length s) s in
      let o = take-octets s (pdu_length s) h in
      (two-octets p 15 o, time-in (of_kind 211 l p) (values-up _ 211 p l.header o), hello-kind kind l mac p e)

  pub brief-read : Reads (Brief kind) (hello_read kind mac s)
  brief-read = reads-by (Brief kind) kind mac s brief-of
