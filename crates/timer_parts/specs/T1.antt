-- One T1 (document 01, "Timers while Restarting"; document 02, W-201 and W-202; RFC 8706, 3.1 and 3.3). N is the tries of the lengths s; l the levels
-- that the T1 serves: on a LAN its own, on P2P all of its circuit's.
use Rattle.std.specs.Prelude.{ℕ, ◌+◌, Bool, true, false, cond, not, ◌&&◌, leb, ltb}
use Rattle.std.specs.Int.Bits.{bit_or}
use Rattle.restart_tlv.specs.Flags.{RR, SA}
use Rattle.restart_tlv.specs.declared.flags.Flags.{Flags}
use Rattle.basics.specs.declared.levels.Levels.{Levels}
use Rattle.basics.specs.Levels.{within, union}
use Rattle.timer_parts.specs.declared.heard.Heard.{Heard}
use Rattle.timer_parts.specs.declared.heard.Heard.TheVariants.{WithoutTlv, Acknowledged, Plain}
use Rattle.settings.specs.declared.lengths.Lengths.{Lengths}
use Rattle.settings.specs.declared.mode.Mode.{Mode}
use Rattle.settings.specs.declared.mode.Mode.TheVariants.{Running, Restarting, Starting}
use Rattle.timer_parts.specs.declared.t1.Entry.{Entry}
use Rattle.timer_parts.specs.declared.t1.T1.{T1}
use Rattle.timer_parts.specs.declared.t1.Freed.{Freed}
use Rattle.timer_parts.specs.declared.t1.Freed.TheVariants.{Kept, Stopped, Reinitialise}

-- a T1 at setup, which begins it or not, has no expiry, no acknowledgement and no CSNP set
unfoldable pub start_entry : Bool → ℕ → Entry
start_entry begun deadline =
    record { begun = begun; deadline = deadline; tries = 0; acked = false; sets = record { one = false; two = false } }

-- Document 02, W-201: "T1 of a circuit begins when a record there first becomes UP"; W-202: on a LAN "with its level's first UP record". up says that
-- one becomes UP, in the mode Starting. House: it begins once, and not again after it stopped or for another record.
unfoldable pub begins : Bool → T1 → Bool
begins up t = up && not t.entry.begun

-- Document 02, W-201: "Acknowledgements .. count from that first UP frame on": one that came before does not. House: the CSNP sets that were
-- complete before do.
unfoldable pub begin : ℕ → T1 → T1
begin deadline t =
    record { runs = true; entry = record { begun = true; deadline = deadline; tries = 0; acked = false; sets = t.entry.sets } }

unfoldable pub begun_by : Bool → ℕ → T1 → T1
begun_by up deadline t = cond (begins up t) (begin deadline t) t

-- what was told of a T1 stays when it stops
unfoldable pub stop_t1 : T1 → T1
stop_t1 t = record { runs = false; entry = t.entry }

-- "T1 at its deadline: order the hello again and run from this clock, or stop at the Nth expiry; one tick is at most one expiry."
unfoldable pub due : ℕ → T1 → Bool
due clock t = t.runs && leb t.entry.deadline clock

unfoldable pub hello_due : Lengths → ℕ → T1 → Bool
hello_due s clock t = due clock t && ltb (t.entry.tries + 1) s.tries

unfoldable pub again : Lengths → ℕ → T1 → T1
again s clock t =
    record {
      runs = true;
      entry =
          record {
            begun = t.entry.begun;
            deadline = clock + s.t1;
            tries = t.entry.tries + 1;
            acked = t.entry.acked;
            sets = t.entry.sets;
          };
    }

unfoldable pub tick_t1 : Lengths → ℕ → T1 → T1
tick_t1 s clock t = cond (hello_due s clock t) (again s clock t) (cond (due clock t) (stop_t1 t) t)

-- "T1 stops when one came and CSNP sets are complete for all the circuit's levels .."; document 02, W-202: on a LAN "by its own level's
-- acknowledgement and CSNP set"
unfoldable pub done : Levels → Entry → Bool
done l e = e.acked && within l e.sets

unfoldable pub satisfied : Levels → T1 → T1
satisfied l t = cond (done l t.entry) (stop_t1 t) t

-- RFC 8706, 3.3.1: the receipt of the acknowledgement over that interface is noted
unfoldable pub acknowledged : T1 → T1
acknowledged t =
    record {
      runs = t.runs;
      entry =
          record {
            begun = t.entry.begun;
            deadline = t.entry.deadline;
            tries = t.entry.tries;
            acked = true;
            sets = t.entry.sets;
          };
    }

-- the CSNP sets of the levels n are complete
unfoldable pub noted : Levels → T1 → T1
noted n t =
    record {
      runs = t.runs;
      entry =
          record {
            begun = t.entry.begun;
            deadline = t.entry.deadline;
            tries = t.entry.tries;
            acked = t.entry.acked;
            sets = union n t.entry.sets;
          };
    }

-- ".. on P2P a frame with no Restart TLV stops it at once."
unfoldable pub heard_t1 : Levels → Heard → T1 → T1
heard_t1 l (WithoutTlv ours) t = stop_t1 t
heard_t1 l (Acknowledged up remaining) t = satisfied l (acknowledged t)
heard_t1 l Plain t = t

-- such a frame stopped a running T1. RFC 8706, 3.3.1: with the three-way state Up and our own extended circuit ID, the adjacency
-- must be made to reinitialise; the three-way state is the daemon's to send. 3.3.2, for a router that starts, does not say so.
unfoldable pub freed_by : Bool → Heard → T1 → Freed
freed_by restarting (WithoutTlv ours) t = cond t.runs (cond (restarting && ours) Reinitialise Stopped) Kept
freed_by restarting (Acknowledged up remaining) t = Kept
freed_by restarting Plain t = Kept

-- both flags, which may stand together (RFC 8706, 3.2)
abbrev pub RRandSA : ℕ
RRandSA = bit_or RR SA

-- "The next hello carries RR exactly while T1 runs, and no other flag." Document 02, W-201: "every hello carries SA until all T2 are done",
-- and "from its first expiry while it runs hellos carry RR and SA".
unfoldable pub hello_flags : Mode → T1 → Flags
hello_flags Running t = record { bits = 0 }
hello_flags Restarting t = record { bits = cond t.runs RR 0 }
hello_flags Starting t = record { bits = cond (t.runs && ltb 0 t.entry.tries) RRandSA SA }
