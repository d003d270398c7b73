-- Document 01, "Sample runs", C9, of T3 alone: it runs to 65,535 from setup at clock 0. Crate timers has the same row of all timers. And one T1 of a
-- start (document 02, W-201) from clock 0, with T1 10 and N 3; and frames without the Restart TLV (document 02, W-203).
use Prim.Native.Nat.{ℕ}
use mathlib.Core.Path.{◌≡◌, refl}
use mathlib.Core.Bool.{true, false}
use Rattle.basics.specs.declared.levels.Levels.{Levels}
use Rattle.restart_tlv.specs.declared.reader.RestartTlv.{RestartTlv}
use Rattle.restart_tlv.specs.declared.reader.RestartTlv.TheVariants.{Absent, Ignored}
use Rattle.hello.specs.declared.read.Link.{Link}
use Rattle.hello.specs.declared.read.Link.TheVariants.{Lan, P2p}
use Rattle.hello.specs.declared.three_way.ThreeWayState.TheVariants.{Up}
use Rattle.hello.specs.declared.three_way.Identifiers.TheVariants.{Whole}
use Rattle.settings.specs.declared.mode.Mode.TheVariants.{Starting}
use Rattle.timer_parts.specs.Heard.{heard_without_tlv, heard_of}
use Rattle.timer_parts.specs.T1.{start_entry, begins, begin, begun_by, stop_t1, due, hello_due, again, tick_t1, done, satisfied, acknowledged, noted, heard_t1, freed_by, hello_flags}
use Rattle.timer_parts.specs.T3.{lower_t3, heard_t3}
use Rattle.timer_parts.specs.declared.heard.Heard.{Heard}
use Rattle.timer_parts.specs.declared.heard.Heard.TheVariants.{Acknowledged, WithoutTlv}
use Rattle.timer_parts.specs.declared.t1.Freed.TheVariants.{Kept, Stopped, Reinitialise}
use Rattle.timer_parts.specs.declared.t1.T1.{T1}
use Rattle.timer_parts.specs.declared.t3.T3.{T3}
use Rattle.timer_parts.specs.declared.t3.T3.TheVariants.{Runs}
use Rattle.std.specs.Prelude.{None}

abbrev at5 : T3
at5 = heard_t3 5 (Acknowledged true 40) (Runs 65535)

abbrev at10 : T3
at10 = heard_t3 10 (Acknowledged true 50) at5

abbrev at12 : T3
at12 = heard_t3 12 (Acknowledged false 20) at10

-- at 5 RA 40, Up; at 10 RA 50, Up; at 12 RA 20, not Up: T3 at 45, 45, 45
pub c9-t3 : (at5 ≡ Runs 45) × (at10 ≡ Runs 45) × (at12 ≡ Runs 45)
unfolding lower_t3 heard_t3
c9-t3 = (refl, refl, refl)

-- ---- a start

abbrev first : Levels
first = record { one = true; two = false }

-- RA came and the CSNP set is complete, before a record is UP
abbrev before : T1
before = noted first (heard_t1 first (Acknowledged true 40) (record { runs = false; entry = start_entry false 0 }))

-- at 2 a record becomes UP
abbrev up2 : T1
up2 = begun_by true 12 before

-- the first expiry
abbrev late : T1
late = tick_t1 (record { t1 = 10; t2 = 60; tries = 3 }) 12 up2

-- RA, and then another record becomes UP
abbrev stopped : T1
stopped = heard_t1 first (Acknowledged true 40) late

abbrev flags : T1 → ℕ
flags t = (hello_flags Starting t).bits

-- SA throughout, and RR beside it from the first expiry while T1 runs; the RA before does not count, so that a CSNP notice stops nothing; T1 begins
-- once; a frame without the TLV asks for no reinitialisation
pub start-t1 : (before.runs ≡ false) × (flags before ≡ 4) × (up2.runs ≡ true) × ((satisfied first (noted first up2)).runs ≡ true) × (flags up2 ≡ 4) × (late.runs ≡ true) × (flags late ≡ 5)
    × ((begun_by true 23 late).entry.tries ≡ 1) × (stopped.runs ≡ false) × (flags stopped ≡ 4) × ((begun_by true 24 stopped).runs ≡ false)
    × (freed_by false (WithoutTlv true) up2 ≡ Stopped)
unfolding start_entry begins begin begun_by stop_t1 due hello_due again tick_t1 done satisfied acknowledged noted heard_t1 freed_by hello_flags
start-t1 = (refl, refl, refl, refl, refl, refl, refl, refl, refl, refl, refl, refl)

-- ---- a frame without the TLV, and one whose TLV is ignored

-- showing us Up with our own extended circuit ID, 1
abbrev p2p : Link
p2p = P2p (record { state = Up; ids = Whole 7 0x192168001001 1 })

-- at level 1, of priority 64, with our MAC listed
abbrev lan : Link
lan = Lan 1 64 true

abbrev heard : RestartTlv → Link → Heard
heard r l = heard_of 0x192168001001 1 (record { system = 0x192168001002; hold = 27; restart = r; reverse = None; link = l })

-- On P2P no TLV stops T1 at once, and says whether to reinitialise; it is no acknowledgement and leaves T3. On a LAN it stops nothing, and an ignored TLV
-- on neither.
pub bare-t1 : ((heard_t1 first (heard Absent p2p) up2).runs ≡ false) × (freed_by true (heard Absent p2p) up2 ≡ Reinitialise)
    × ((heard_t1 first (heard Absent p2p) up2).entry.acked ≡ false) × (heard_t3 5 (heard Absent p2p) (Runs 65535) ≡ Runs 65535)
    × (heard_t1 first (heard Absent lan) up2 ≡ up2) × (freed_by true (heard Absent lan) up2 ≡ Kept)
    × (heard_t1 first (heard Ignored p2p) up2 ≡ up2) × (freed_by true (heard Ignored p2p) up2 ≡ Kept)
    × (heard_t1 first (heard Ignored lan) up2 ≡ up2)
unfolding heard_without_tlv heard_of stop_t1 heard_t1 heard_t3 freed_by start_entry begins begin begun_by done satisfied acknowledged noted
bare-t1 = (refl, refl, refl, refl, refl, refl, refl, refl, refl)
