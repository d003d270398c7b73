-- What the code says of an accepted hello: of a room's words ws and of the reply buffer b before it, and of both after it.
use Rattle.std.specs.Prelude.{ℕ, ◌≡◌, List, Ok, Err}
use Rattle.hello.specs.declared.read.Hello.{Hello}
use Rattle.adjacency.specs.Record.{phase_of}
use Rattle.adjacency.specs.declared.record.Key.{Key}
use Rattle.adjacency.specs.declared.step.Here.{Here}
use Rattle.slots.specs.Slots.{table_of}
use Rattle.room.specs.declared.accept.Decision.{Decision}
use Rattle.room.specs.Table.{find, crowded}
use Rattle.room.specs.Accept.{if_room, decided, kept, written}
use Rattle.adjacency.specs.React.{Reaction}

abbrev pub Did : Key → ℕ → List ℕ → List ℕ → List ℕ → List ℕ → Reaction → Type 0
Did k system ws b ws' b' (Err x) = (ws' ≡ ws) × (b' ≡ b)
Did k system ws b ws' b' (Ok (after, reply, line)) = (table_of ws' ≡ kept k after (table_of ws)) × (b' ≡ written system reply b)

pub record AcceptsAt (k : Key) (a : Reaction) (system : ℕ) (ws b ws' b' : List ℕ) (r : Reaction) : Type 0 where
  pub is : r ≡ if_room (crowded k (table_of ws)) a
  pub did : Did k system ws b ws' b' r

pub record Accepts (here : Here) (k : Key) (h : Hello) (ws b ws' b' : List ℕ) (r : Decision) : Type 0 where
  pub is : r.reaction ≡ decided here k h (table_of ws)
  pub did : Did k h.system ws b ws' b' r.reaction
  pub before : r.before ≡ phase_of (find k (table_of ws))
