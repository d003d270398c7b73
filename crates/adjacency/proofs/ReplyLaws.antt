-- A line replies or not, whatever the Remaining Time is.
use Prim.Native.Nat.{ℕ}
use mathlib.Core.Path.{◌≡◌, refl, ap}
use Rattle.restart_tlv.specs.declared.writer.Ack.{Ack}
use Rattle.restart_tlv.specs.declared.writer.Ack.TheVariants.{Restart as RestartAck, Planned as PlannedAck}
use Rattle.adjacency.specs.Marks.{reply_by}
use Rattle.adjacency.specs.declared.marks.Line.{Line}
use Rattle.adjacency.specs.declared.marks.Line.TheVariants.{One, Two, Three, Four, Five}
use Rattle.std.specs.Prelude.{Option, Some, None}

pub no-reply : (line : Line) (time : ℕ) → reply_by line 0 ≡ None → None ≡ reply_by line time
no-reply One time e = cc
no-reply Two time e = cc
no-reply Three time e = cc
no-reply Four time e = refl
no-reply Five time e = refl

-- the same RA or PA with another time
again : (a b : Ack) (s t time : ℕ) → ◌≡◌ {A = Option (Ack × ℕ)} (Some (a, s)) (Some (b, t)) → ◌≡◌ {A = Option (Ack × ℕ)} (Some (b, time)) (Some (a, time))
again a b s t time e = let p : ◌≡◌ {A = Ack × ℕ} (b, t) (a, s) = cc in ap (λ (x : Ack × ℕ). Some (x.0, time)) p

pub same-reply : (line : Line) (ack : Ack) (t time : ℕ) → reply_by line 0 ≡ Some (ack, t) → Some (ack, time) ≡ reply_by line time
same-reply One ack t time e = again RestartAck ack 0 t time e
same-reply Two ack t time e = again RestartAck ack 0 t time e
same-reply Three ack t time e = again PlannedAck ack 0 t time e
same-reply Four ack t time e = cc
same-reply Five ack t time e = cc
