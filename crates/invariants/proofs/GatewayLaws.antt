-- What holds of every gateway from setup on, told room by room; that setup gives it; and how rooms are found after a call.
use Prim.Native.Nat.{ℕ, zero, suc, ◌-◌, ◌≤◌, ◌<◌}
use native.Mathlib.Omega.{arith}
use mathlib.Core.Path.{◌≡◌, refl, ◌∙◌}
use mathlib.Core.Bool.{Bool, true, false}
use mathlib.Core.List.{List, [], ◌∷◌, map}
use lib.ListN.{length, get_or, set, length-take}
use lib.Seq.{get_or-take}
use lib.Dec.{ltb}
use borrow.Author.Tests.{ltb-true}
use Rattle.basics.proofs.BoolLaws.{by-test}
use Rattle.adjacency.specs.Record.{expiry_of}
use Rattle.adjacency.specs.declared.record.Key.{Key}
use Rattle.adjacency.specs.declared.record.State.{State}
use Rattle.adjacency.specs.declared.place.Slot.{Slot}
use Rattle.room.specs.Table.{crowded, put, sweep, empty_room}
use Rattle.room.specs.Gather.{gather}
use Rattle.settings.specs.Settings.{circuits_of, settings_ok}
use Rattle.settings.specs.declared.circuit.Circuit.{Circuit}
use Rattle.settings.specs.declared.setup.Settings.{Settings}
use Rattle.control.specs.Common.{no_circuit, circuit_of, setup_common}
use Rattle.timers.specs.Hellos.{Hellos}
use Rattle.model.specs.Gateway.{Room, Gateway, numbered, renew, no_room, room_of, new_room, new_gateway, Started, setup}
use Rattle.model.specs.Step.{swept_room}
use Rattle.invariants.specs.Invariants.{FramesFit, Each, end, room_for, Span, Unmarked, KeyFits}
use Rattle.invariants.proofs.CommonLaws.{known-stands, CommonOk, common-new}
use Rattle.invariants.proofs.FrameLaws.{new-frames}
use Rattle.invariants.proofs.InRange.{circuit-hold}
use Rattle.invariants.proofs.RoomLaws.{each-put, each-sweep, NoRecords, no-records-each, no-records-gather, empty-no-records, open_places, empty-places, places-put, places-sweep, single-sweep, single-put}
use Rattle.std.specs.Prelude.{Option, Some, None}

-- ---- a room

-- a circuit's open_places, and no record where there is no circuit
pub data Size : Option Circuit → List Slot → Type 0 where
  places_of : {s : Circuit} {t : List Slot} → open_places t ≡ room_for s.kind → Size (Some s) t
  none-of : {t : List Slot} → NoRecords t → Size None t

-- what a key on that circuit is
abbrev pub KeyOf : ℕ → Option Circuit → Key → Type 0
KeyOf own (Some s) k = KeyFits own s k
KeyOf own None k = Unit {0}

pub record RoomOk (own : ℕ) (x : Option Circuit) (clock : ℕ) (t : List Slot) : Type 0 where
  pub spans : Each (λ r. Span clock (expiry_of r.state)) t
  pub bare : Each (λ r. Unmarked r.state) t
  pub keys : Each (λ r. KeyOf own x r.key) t
  pub single : (k : Key) → length (gather k t) ≤ 1
  pub size : Size x t

-- no record: any clock
module _ (t : List Slot) (b : NoRecords t) where
  single-no-records : (k : Key) → length (gather k t) ≤ 1
  single-no-records k = rw (no-records-gather k t b) (omega arith)

  no-records-ok : (own : ℕ) (x : Option Circuit) (clock : ℕ) → Size x t → RoomOk own x clock t
  no-records-ok own x clock z = record { spans = no-records-each t b; bare = no-records-each t b; keys = no-records-each t b; single = single-no-records; size = z }

-- a record put
pub room-put : (own : ℕ) (s : Circuit) (clock : ℕ) (t : List Slot) (k : Key) (v : State) → RoomOk own (Some s) clock t → crowded k t ≡ false
    → Span clock (expiry_of v) → Unmarked v → KeyFits own s k → RoomOk own (Some s) clock (put k v t)
room-put own s clock t k v ok free span bare key =
    record {
      spans = each-put k v span t ok.spans;
      bare = each-put k v bare t ok.bare;
      keys = each-put k v key t ok.keys;
      single = λ j. single-put t ok.single j k v free;
      size = by ok.size;
    }
  where
    by : Size (Some s) t → Size (Some s) (put k v t)
    by (places_of e) = places_of (places-put k v t ∙ e)

-- a sweep at a clock that may have moved on
size-sweep : (x : Option Circuit) (p : State → Bool) (t : List Slot) → Size x t → Size x (sweep p t)
size-sweep (Some s) p t (places_of e) = places_of (places-sweep p t ∙ e)
size-sweep None p t (none-of b) = none-of (each-sweep p (λ r e q. q) t b)

pub room-sweep : (own : ℕ) (x : Option Circuit) (old clock : ℕ) (p : State → Bool) (t : List Slot)
    → ((s : State) → p s ≡ false → Span old (expiry_of s) → Span clock (expiry_of s)) → RoomOk own x old t → RoomOk own x clock (sweep p t)
room-sweep own x old clock p t f ok =
    record {
      spans = each-sweep p (λ r. f r.state) t ok.spans;
      bare = each-sweep p (λ r e q. q) t ok.bare;
      keys = each-sweep p (λ r e q. q) t ok.keys;
      single = λ k. single-sweep t ok.single k p;
      size = size-sweep x p t ok.size;
    }

-- ---- the gateway

pub record RoomsOk (g : Gateway) : Type 0 where
  pub hold : (n : ℕ) (s : Circuit) → circuit_of g.common n ≡ Some s → s.hold ≤ 65535
  pub rooms : (n : ℕ) → RoomOk g.common.system (circuit_of g.common n) g.common.clock (room_of g n).slots

-- a room without a record
pub room-empty : (own : ℕ) (s : Circuit) (clock : ℕ) → RoomOk own (Some s) clock (empty_room s.kind)
room-empty own s clock = no-records-ok _ (empty-no-records s.kind) own (Some s) clock (places_of (empty-places s.kind))

-- ---- rooms after a call

-- a room with a place is there
set_same : (l : List Room) (i : ℕ) (v : Room) → 0 < open_places (get_or l i no_room).slots → get_or (set l i v) i no_room ≡ v
unfolding open_places
set_same [] i v h = absurd (omega arith)
set_same (x ∷ l) zero v h = refl
set_same (x ∷ l) (suc i) v h = set_same l i v h

pub renew-same : (l : List Room) (n : ℕ) (v : Room) → 0 < open_places (numbered l n no_room).slots → numbered (renew l n v) n no_room ≡ v
unfolding numbered renew open_places
renew-same l zero v h = absurd (omega arith)
renew-same l (suc i) v h = set_same l i v h

-- all rooms swept_room
swept-get_or : (clock : ℕ) (l : List Room) (i : ℕ) → get_or (map (swept_room clock) l) i no_room ≡ swept_room clock (get_or l i no_room)
unfolding sweep
swept-get_or clock [] i = refl
swept-get_or clock (r ∷ l) zero = refl
swept-get_or clock (r ∷ l) (suc i) = swept-get_or clock l i

pub swept_at : (clock : ℕ) (l : List Room) (n : ℕ) → numbered (map (swept_room clock) l) n no_room ≡ swept_room clock (numbered l n no_room)
unfolding numbered sweep
swept_at clock l zero = refl
swept_at clock l (suc i) = swept-get_or clock l i

-- ---- setup

new-at : (l : List Circuit) (i : ℕ) (d : Circuit) → i < length l → get_or (map new_room l) i no_room ≡ new_room (get_or l i d)
new-at [] i d lt = absurd (omega arith)
new-at (c ∷ l) zero d lt = refl
new-at (c ∷ l) (suc i) d lt = new-at l i d (omega arith)

new-no-records : (l : List Circuit) (i : ℕ) → NoRecords (get_or (map new_room l) i no_room).slots
new-no-records [] i = end
new-no-records (c ∷ l) zero = empty-no-records c.kind
new-no-records (c ∷ l) (suc i) = new-no-records l i

module _ (s : Settings) (ok : settings_ok s ≡ true) where
  new-hold : (n : ℕ) (c : Circuit) → circuit_of (setup_common s) n ≡ Some c → c.hold ≤ 65535
  unfolding setup_common
  new-hold n c e = circuit-hold s ok (n - 1) c (known-stands (setup_common s) n c e)

  new-places : (i : ℕ) → i < length (circuits_of s)
      → open_places (get_or (map new_room s.circuits) i no_room).slots ≡ room_for (get_or (circuits_of s) i (no_circuit)).kind
  new-places i lt =
      let below : (i < s.count) × (i < length s.circuits) = (omega (arith, length-take s.count s.circuits), omega (arith, length-take s.count s.circuits)) in
      rw (new-at s.circuits i (no_circuit) below.1, get_or-take s.count s.circuits i (no_circuit) below.0)
      (empty-places (get_or s.circuits i (no_circuit)).kind)

  new-room : (n : ℕ) → RoomOk s.system (circuit_of (setup_common s) n) s.clock (numbered (map new_room s.circuits) n no_room).slots
  unfolding circuit_of setup_common numbered
  new-room zero = no-records-ok [] end s.system None s.clock (none-of end)
  new-room (suc i) =
      let b = new-no-records s.circuits i in
      by-test (ltb i (length (circuits_of s)))
      (λ a. rw a (no-records-ok _ b s.system (Some (get_or (circuits_of s) i (no_circuit))) s.clock (places_of (new-places i (ltb-true _ _ a)))))
      (λ a. rw a (no-records-ok _ b s.system None s.clock (none-of b)))

  new-rooms : RoomsOk (new_gateway s)
  unfolding new_gateway setup_common
  new-rooms = record { hold = new-hold; rooms = new-room }

  new-common : CommonOk s (new_gateway s).common
  unfolding new_gateway
  new-common = common-new s ok

-- ---- all parts of the gateway, of setup's settings

pub record Holds (s : Settings) (g : Gateway) : Type 0 where
  pub common : CommonOk s g.common
  pub rooms : RoomsOk g
  pub frames : FramesFit g

pub setup-holds : (s : Settings) (g : Gateway) (hellos : Hellos) → setup s ≡ Started g hellos → Holds s g
unfolding setup
setup-holds s g hellos e =
    by-test (settings_ok s)
    (λ a. let z : new_gateway s ≡ g = cc in rw (← z) (record { common = new-common s a; rooms = new-rooms s a; frames = new-frames s }))
    (λ a. absurd (let z : ◌≡◌ {A = ℕ} 0 1 = cc in omega arith))
