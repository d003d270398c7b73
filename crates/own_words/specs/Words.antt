-- The gateway in its own words (house): the control words, then a room for each circuit; and what a call of document 01 does to them. Crate
-- gateway has the words and octets of unfinished frames, and the promise of every call.
use Rattle.std.specs.Prelude.{ℕ, ◌+◌, ◌-◌, ◌*◌, ◌≡◌, List}
use Rattle.basics.specs.declared.refusal.Refusal.{Refusal}
use Rattle.basics.specs.Mask.{circuits}
use Rattle.basics.specs.Lists.{part, tabulate}
use Rattle.slots.specs.Slots.{table_of, room_words}
use Rattle.control.specs.Words.{circuit_at, common_of, control_words}
use Rattle.settings.specs.declared.circuit.Circuit.{Circuit}
use Rattle.model.specs.Answers.{Answer, Refused}
use Rattle.model.specs.Gateway.{Gateway, Room, no_frames}
use Rattle.model.specs.Step.{Outcome}

abbrev pub own_words : ℕ
own_words = control_words + room_words * circuits

-- where the room of circuit i (from 0) stands
abbrev pub room_place : ℕ → ℕ
room_place i = control_words + room_words * i

unfoldable pub room_at : List ℕ → ℕ → Room
room_at ws i = record { slots = table_of (part (room_place i) room_words ws) }

-- any words mean some gateway; no frame is begun in it
unfoldable pub gateway_of : List ℕ → Gateway
gateway_of ws = record { common = common_of (part 0 control_words ws); rooms = tabulate (room_at ws) circuits; unfinished = no_frames }

-- the settings of circuit n (from 1), as the words have them
abbrev pub circuit_held : List ℕ → ℕ → Circuit
circuit_held ws n = circuit_at (part 0 control_words ws) (n - 1)

-- What a call of document 01 on its own words ws is to do, a being its answer: answer, reply buffer and gateway at exit are the outcome's, and a
-- refusal leaves every word as it was.
pub record Meets (a : Answer) (o : Outcome) (ws ws' b' : List ℕ) : Type 0 where
  pub answer : a ≡ o.answer
  pub reply : b' ≡ o.reply
  pub next : gateway_of ws' ≡ o.next
  pub kept : (x : Refusal) → a ≡ Refused x → ws' ≡ ws
