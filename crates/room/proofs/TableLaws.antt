-- The laws of a room, told by `gather`: every claim about rooms cites these, and none unfolds find, put or sweep.
use mathlib.Core.Path.{◌≡◌, refl, sym, ap, ◌∙◌}
use mathlib.Core.Bool.{Bool, true, false}
use mathlib.Core.List.{List, [], ◌∷◌}
use Rattle.adjacency.proofs.KeysLaws.{same_key-refl, same_key-eq}
use Rattle.basics.proofs.BoolLaws.{by-test}
use Rattle.adjacency.specs.declared.record.State.{State}
use Rattle.adjacency.specs.declared.record.Key.{Key}
use Rattle.basics.specs.declared.kind.CircuitKind.TheVariants.{P2p}
use Rattle.adjacency.specs.Keys.{same_key}
use Rattle.adjacency.specs.declared.place.Slot.{Slot}
use Rattle.adjacency.specs.declared.place.Slot.TheVariants.{Free, Held, Closed}
use Rattle.room.specs.Table.{find, has, full, crowded, replace, insert, put, sweep, empty_room}
use Rattle.room.specs.Gather.{gather, first, filled, rest, keep}
use Rattle.std.specs.Prelude.{Some}

-- what each function is, told by gather

pub find-is : (k : Key) (t : List Slot) → find k t ≡ first (gather k t)
unfolding find first gather
find-is k [] = refl
find-is k (Free ∷ t) = find-is k t
find-is k (Held r ∷ t) = let h = find-is k t in by-test (same_key k r.key) (λ e. cc) (λ e. cc)
find-is k (Closed ∷ t) = find-is k t

pub has-is : (k : Key) (t : List Slot) → has k t ≡ filled (gather k t)
unfolding has filled gather
has-is k [] = refl
has-is k (Free ∷ t) = has-is k t
has-is k (Held r ∷ t) = let h = has-is k t in by-test (same_key k r.key) (λ e. cc) (λ e. cc)
has-is k (Closed ∷ t) = has-is k t

pub gather-sweep : (p : State → Bool) (k : Key) (t : List Slot) → gather k (sweep p t) ≡ keep p (gather k t)
unfolding gather sweep keep
gather-sweep p k [] = refl
gather-sweep p k (Free ∷ t) = gather-sweep p k t
gather-sweep p k (Held r ∷ t) =
    let h = gather-sweep p k t in
    by-test (p r.state) (λ a. by-test (same_key k r.key) (λ b. cc) (λ b. cc))
    (λ a. by-test (same_key k r.key) (λ b. cc) (λ b. cc))
gather-sweep p k (Closed ∷ t) = gather-sweep p k t

-- a record is put where its key is, and every other key's records stay

gather-replace-other : (k j : Key) (v : State) (t : List Slot) → same_key k j ≡ false → gather k (replace j v t) ≡ gather k t
unfolding gather replace
gather-replace-other k j v [] e = refl
gather-replace-other k j v (Free ∷ t) e = gather-replace-other k j v t e
gather-replace-other k j v (Held r ∷ t) e =
    let h = gather-replace-other k j v t e in
    by-test (same_key j r.key) (λ a. let q = same_key-eq j r.key a in cc)
    (λ a. by-test (same_key k r.key) (λ b. cc) (λ b. cc))
gather-replace-other k j v (Closed ∷ t) e = gather-replace-other k j v t e

gather-insert-other : (k j : Key) (v : State) (t : List Slot) → same_key k j ≡ false → gather k (insert j v t) ≡ gather k t
unfolding gather insert
gather-insert-other k j v [] e = refl
gather-insert-other k j v (Free ∷ t) e = cc
gather-insert-other k j v (Held r ∷ t) e =
    let h = gather-insert-other k j v t e in by-test (same_key k r.key) (λ b. cc) (λ b. cc)
gather-insert-other k j v (Closed ∷ t) e = gather-insert-other k j v t e

gather-replace-same : (k : Key) (v : State) (t : List Slot) → has k t ≡ true → gather k (replace k v t) ≡ v ∷ rest (gather k t)
unfolding gather replace has rest
gather-replace-same k v [] e = cc
gather-replace-same k v (Free ∷ t) e = gather-replace-same k v t e
gather-replace-same k v (Held r ∷ t) e =
    let s = same_key-refl k in
    by-test (same_key k r.key) (λ a. cc) (λ a. let h = gather-replace-same k v t (rw a at e) in cc)
gather-replace-same k v (Closed ∷ t) e = gather-replace-same k v t e

empty : (l : List State) → filled l ≡ false → l ≡ []
unfolding filled
empty [] f = refl
empty (s ∷ l) f = cc

pub gather_none : (k : Key) (t : List Slot) → has k t ≡ false → gather k t ≡ []
gather_none k t e = empty (gather k t) (sym (has-is k t) ∙ e)

gather-insert-same : (k : Key) (v : State) (t : List Slot) → has k t ≡ false → full t ≡ false → gather k (insert k v t) ≡ v ∷ []
unfolding gather insert has full
gather-insert-same k v [] e f = cc
gather-insert-same k v (Free ∷ t) e f = cc (same_key-refl k, gather_none k t e)
gather-insert-same k v (Held r ∷ t) e f =
    by-test (same_key k r.key) (λ a. cc) (λ a. let h = gather-insert-same k v t (rw a at e) f in cc)
gather-insert-same k v (Closed ∷ t) e f = gather-insert-same k v t e f

-- what put does, in the two laws that callers use

pub gather-put-other : (k j : Key) (v : State) (t : List Slot) → same_key k j ≡ false → gather k (put j v t) ≡ gather k t
unfolding put
gather-put-other k j v t e =
    let r = gather-replace-other k j v t e in
    let i = gather-insert-other k j v t e in
    by-test (has j t) (λ h. cc) (λ h. cc)

pub gather-put-same : (k : Key) (v : State) (t : List Slot) → crowded k t ≡ false → gather k (put k v t) ≡ v ∷ rest (gather k t)
unfolding put rest crowded
gather-put-same k v t e =
    by-test (has k t) (λ h. let r = gather-replace-same k v t h in cc)
    (λ h.
    let f : full t ≡ false = by-test (full t) (λ g. cc) (λ g. g) in
    let i = gather-insert-same k v t h f in
    cc (gather_none k t h))

pub find-put-same : (k : Key) (v : State) (t : List Slot) → crowded k t ≡ false → find k (put k v t) ≡ Some v
unfolding first
find-put-same k v t e = find-is k (put k v t) ∙ ap first (gather-put-same k v t e)

pub find-put-other : (k j : Key) (v : State) (t : List Slot) → same_key k j ≡ false → find k (put j v t) ≡ find k t
find-put-other k j v t e = find-is k (put j v t) ∙ ap first (gather-put-other k j v t e) ∙ sym (find-is k t)

-- a P2P circuit has room for 1 record: a second System ID is refused (9) while the first one's record stands
pub p2p-second : (k j : Key) (v : State) → same_key k j ≡ false → crowded k (put j v (empty_room P2p)) ≡ true
unfolding empty_room put insert has crowded full
p2p-second k j v e = rw e refl
