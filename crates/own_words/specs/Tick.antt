-- What a tick that is not refused does to the words (document 01, "Marks and holding time" and "Timers while Restarting").
use Rattle.std.specs.Prelude.{ℕ, ◌≡◌, List, map}
use Rattle.timers.specs.Timers.{ticked, to_t3}
use Rattle.timers.specs.Outcome.{ordered, tick_hellos}
use Rattle.control.specs.Common.{Common, with_clock, with_timers}
use Rattle.model.specs.Answers.{Answer, Ticked, timers_answer}
use Rattle.model.specs.Gateway.{Gateway, with_rooms, with_common}
use Rattle.model.specs.Step.{lapsed, swept_room}
use Rattle.own_words.specs.Words.{gateway_of}

-- the common part after it, and its answer
abbrev pub ticked_common : ℕ → Common → Common
ticked_common clock c = with_timers (ticked c.lengths clock c.timers) (with_clock clock c)

abbrev pub ticked_answer : ℕ → Gateway → Answer
ticked_answer clock g =
    Ticked (map (lapsed clock) g.rooms) (tick_hellos g.common.lengths clock g.common.timers)
    (timers_answer (ordered (to_t3 g.common.lengths clock) g.common.timers))

pub record SweepsAll (clock : ℕ) (ws ws' : List ℕ) (a : Answer) : Type 0 where
  pub answer : a ≡ ticked_answer clock (gateway_of ws)
  pub next : gateway_of ws' ≡ with_rooms (with_common (gateway_of ws) (ticked_common clock (gateway_of ws).common)) (map (swept_room clock) (gateway_of ws).rooms)
