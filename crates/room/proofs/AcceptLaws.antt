-- The laws of an accepted hello, for its code: keys, refusals 8 and 9, what is kept and written, and line 1's order.
use mathlib.Core.Path.{◌≡◌, refl, ap, ◌∙◌}
use mathlib.Core.Bool.{Bool, true, false}
use mathlib.Core.List.{List, ◌++◌}
use Prim.Native.Nat.{ℕ}
use lib.ListN.{drop}
use Rattle.restart_tlv.specs.Restart.{ack_flag, restart_octets}
use Rattle.restart_tlv.specs.declared.writer.Ack.{Ack}
use Rattle.basics.specs.declared.levels.Levels.{Levels}
use Rattle.basics.specs.Levels.{only_level}
use Rattle.hello.specs.declared.read.Link.{Link}
use Rattle.hello.specs.declared.read.Link.TheVariants.{Lan}
use Rattle.hello.specs.declared.read.Hello.{Hello}
use Rattle.basics.specs.declared.refusal.Refusal.{Refusal}
use Rattle.basics.specs.declared.refusal.Refusal.TheVariants.{NoRoom}
use Rattle.adjacency.specs.React.{react_of}
use Rattle.adjacency.specs.Keys.{level_in}
use Rattle.adjacency.specs.declared.marks.Line.{Line}
use Rattle.adjacency.specs.declared.marks.Line.TheVariants.{One}
use Rattle.adjacency.specs.declared.duty.Rank.{Rank}
use Rattle.adjacency.specs.Duty.{csnps_of}
use Rattle.adjacency.specs.declared.record.State.{State}
use Rattle.adjacency.specs.declared.record.Key.{Key}
use Rattle.adjacency.specs.declared.step.Here.{Here}
use Rattle.adjacency.specs.declared.place.Slot.{Slot}
use Rattle.room.specs.Table.{find, put, crowded, any_outranks}
use Rattle.room.specs.Accept.{if_room, decided, kept, written, csnps_in}
use Rattle.std.specs.Prelude.{Option, Some, None, Ok, Err}
use Rattle.adjacency.specs.React.{Reaction}

module _ (full : Bool) (a : Reaction) where
  pub room-refused : (x : Refusal) → a ≡ Err x → a ≡ if_room full a
  unfolding if_room
  room-refused x e = rw e refl

  module _ (after : Option State) (reply : Option (Ack × ℕ)) (line : Line) (e : a ≡ Ok (after, reply, line)) where
    pub room-full : full ≡ true → Err NoRoom ≡ if_room full a
    unfolding if_room
    room-full f = rw (e, f) refl

    pub room-free : full ≡ false → Ok (after, reply, line) ≡ if_room full a
    unfolding if_room
    room-free f = rw (e, f) refl

pub decided-is : (here : Here) (k : Key) (h : Hello) (t : List Slot) (stood : Option State) (a : Reaction) → find k t ≡ stood → a ≡ react_of here h stood
    → if_room (crowded k t) a ≡ decided here k h t
unfolding decided
decided-is here k h t stood a f e = rw (e, f) refl

module _ (k : Key) (a : Option State) (t : List Slot) where
  pub kept-absent : a ≡ None → t ≡ kept k a t
  unfolding kept
  kept-absent e = rw e refl

  pub kept-present : (s : State) → a ≡ Some s → put k s t ≡ kept k a t
  unfolding kept
  kept-present s e = rw e refl

pub written-send : (system : ℕ) (a : Option (Ack × ℕ)) (ack : Ack) (time : ℕ) (b : List ℕ) → a ≡ Some (ack, time)
    → restart_octets (ack_flag ack) time system ++ drop 11 b ≡ written system a b
unfolding written
written-send system a ack time b e = rw e refl

-- line 1 on a LAN, our rank being at the frame's level
module _ (rank : Rank) (l : Levels) (k : Link) (t : List Slot) (level priority : ℕ) (listed : Bool) (e : k ≡ Lan level priority listed) where
  pub csnps-outranked : any_outranks rank t ≡ true → None ≡ csnps_in rank One l k t
  unfolding csnps_in csnps_of
  csnps-outranked o = rw (e, o) refl

  at_level : any_outranks rank t ≡ false → Some (only_level (level_in k)) ≡ csnps_in rank One l k t
  unfolding csnps_in csnps_of
  at_level o = rw (e, o) refl

  pub csnps-ours : any_outranks rank t ≡ false → rank.level ≡ level_in k → Some (only_level rank.level) ≡ csnps_in rank One l k t
  csnps-ours o q = ap (λ (n : ℕ). Some (only_level n)) q ∙ at_level o
