-- What the gateway holds (document 01, "What the gateway holds"; document 02, W-205): the common part, and of each circuit its records and its
-- unfinished frame.
use Rattle.std.specs.Prelude.{ℕ, zero, suc, cond, List, [], map, get_or, set, replicate, Option}
use Rattle.basics.specs.Mask.{circuits}
use Rattle.basics.specs.declared.refusal.Refusal.TheVariants.{BadSetting}
use Rattle.adjacency.specs.declared.record.Key.{Key}
use Rattle.adjacency.specs.declared.place.Slot.{Slot}
use Rattle.room.specs.Table.{find, empty_room}
use Rattle.chunks.specs.Chunks.{Unfinished, NoFrame}
use Rattle.timers.specs.Hellos.{Hellos}
use Rattle.timers.specs.Events.{start_hellos}
use Rattle.settings.specs.Settings.{settings_ok}
use Rattle.settings.specs.declared.circuit.Circuit.{Circuit}
use Rattle.settings.specs.declared.setup.Settings.{Settings}
use Rattle.control.specs.Common.{Common, start_of, setup_common}
use Rattle.model.specs.Numbers.{refusal_no}
use Rattle.adjacency.specs.declared.record.State.{State}

-- one circuit's own
pub record Room : Type 0 where
  pub slots : List Slot

pub record Gateway : Type 0 where
  pub common : Common
  pub rooms : List Room
  pub unfinished : List Unfinished

abbrev pub with_slots : Room → List Slot → Room
with_slots r t = record { slots = t }

abbrev pub with_rooms : Gateway → List Room → Gateway
with_rooms g rs = record { common = g.common; rooms = rs; unfinished = g.unfinished }

abbrev pub with_common : Gateway → Common → Gateway
with_common g c = record { common = c; rooms = g.rooms; unfinished = g.unfinished }

-- ---- "circuits, numbered from 1"

module _ {A : Type 0} where
  -- the element of this number, or d where there is none
  unfoldable pub numbered : List A → ℕ → A → A
  numbered l zero d = d
  numbered l (suc i) d = get_or l i d

  -- the list with v at this number; as it was, where there is none
  unfoldable pub renew : List A → ℕ → A → List A
  renew l zero v = l
  renew l (suc i) v = set l i v

abbrev pub no_room : Room
no_room = record { slots = [] }

abbrev pub room_of : Gateway → ℕ → Room
room_of g n = numbered g.rooms n no_room

-- "Each circuit has its own unfinished frame."
abbrev pub unfinished_on : Gateway → ℕ → Unfinished
unfinished_on g n = numbered g.unfinished n NoFrame

abbrev pub with_frames : Gateway → List Unfinished → Gateway
with_frames g us = record { common = g.common; rooms = g.rooms; unfinished = us }

abbrev pub with_unfinished : Gateway → ℕ → Unfinished → Gateway
with_unfinished g n u = with_frames g (renew g.unfinished n u)

-- the record of a key on a circuit
unfoldable pub record_at : Gateway → ℕ → Key → Option State
record_at g n k = find k (room_of g n).slots

-- ---- setup

-- "Setup takes these, a clock in seconds (32 bits) and a mode": every room is empty, and no frame is begun
abbrev pub new_room : Circuit → Room
new_room s = record { slots = empty_room s.kind }

abbrev pub no_frames : List Unfinished
no_frames = replicate circuits NoFrame

unfoldable pub new_gateway : Settings → Gateway
new_gateway s = record { common = setup_common s; rooms = map new_room s.circuits; unfinished = no_frames }

-- the gateway, and the hellos that are ordered
pub data Setup : Type 0 where
  Refused : (number : ℕ) → Setup
  Started : Gateway → Hellos → Setup

-- "A setting outside its range is refused (12) and no gateway results."
unfoldable pub setup : Settings → Setup
setup s = cond (settings_ok s) (Started (new_gateway s) (start_hellos (start_of s))) (Refused (refusal_no BadSetting))
