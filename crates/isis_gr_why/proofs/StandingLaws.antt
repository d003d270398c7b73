-- The record that is asked for, read off the words.
use Prim.Native.Nat.{ℕ, ◌+◌, ◌-◌, ◌<◌, ◌≤◌}
use mathlib.Core.Path.{◌≡◌, refl, ap, ◌∙◌}
use mathlib.Core.Bool.{true, false}
use mathlib.Core.List.{List}
use Rattle.basics.specs.Lists.{part}
use Rattle.basics.specs.Mask.{circuits}
use Rattle.adjacency.specs.Keys.{key_on}
use Rattle.adjacency.specs.declared.record.Key.{Key}
use Rattle.slots.specs.Slots.{table_of, room_words}
use Rattle.room.specs.Table.{find}
use Rattle.settings.specs.declared.circuit.Circuit.{Circuit}
use Rattle.control.specs.Common.{circuit_of}
use Rattle.model.specs.Gateway.{Gateway, record_at}
use Rattle.model.specs.Step.{asks_level}
use Rattle.own_words.specs.Words.{gateway_of, room_place}
use Rattle.own_words.proofs.WordLaws.{room-of}
use Rattle.reasons.specs.Why.{stands_on, standing}
use Rattle.std.specs.Prelude.{Option, Some, None}
use Rattle.adjacency.specs.declared.record.State.{State}

module _ (ws : List ℕ) (n : ℕ) (s : Circuit) (k : Key) where
  abbrev a : ℕ
  a = room_place (n - 1)

  pub stands-not : asks_level s.kind s.levels k.level ≡ false → None ≡ stands_on (gateway_of ws) n k (Some s)
  unfolding stands_on
  stands-not e = rw e refl

  pub stands-found : (lo : 0 < n) (hi : n ≤ circuits) (own : Key) (r : Option State) → asks_level s.kind s.levels k.level ≡ true → own ≡ key_on s.kind k
      → r ≡ find own (table_of (part a (a + room_words - a) ws)) → r ≡ stands_on (gateway_of ws) n k (Some s)
  unfolding stands_on record_at
  stands-found lo hi own r e ke f =
      rw e (f ∙ ap (λ (x : Key). find x (table_of (part a (a + room_words - a) ws))) ke ∙ ap (find (key_on s.kind k)) (room-of ws n lo hi))

pub standing_by : (g : Gateway) (n : ℕ) (k : Key) (q : Option Circuit) → circuit_of g.common n ≡ q → stands_on g n k q ≡ standing g n k
unfolding standing
standing_by g n k q e = rw e refl

pub standing-none : (g : Gateway) (n : ℕ) (k : Key) → circuit_of g.common n ≡ None → None ≡ standing g n k
unfolding stands_on
standing-none g n k e = standing_by g n k None e
