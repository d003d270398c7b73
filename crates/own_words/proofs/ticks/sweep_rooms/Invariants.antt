-- The invariant: what is swept_room before i and what is still to sweep make the whole sweep; so the marks.
use Rattle.model.specs.Answers.{lost_bits}
use Rattle.own_words.specs.Words.{own_words, gateway_of}
use Rattle.model.specs.Step.{swept_room, lapsed}
use Rattle.model.specs.Gateway.{with_rooms}
use lib.ListN.{length, take, drop}
use mathlib.Core.List.{◌++◌, map}
use mathlib.Core.Path.{◌≡◌}
use Rattle.own_words.proofs.ticks.sweep_rooms.Given as goal

abbrev pub invariant-loop-i : goal.invariant-loop-i
invariant-loop-i l =
    (length l.gateway ≡ own_words)
    × (take l.i (lost_bits l.lost) ++ map (lapsed l.clock) (drop l.i (gateway_of l.gateway).rooms) ≡ map (lapsed l.clock) (gateway_of l.initial.gateway).rooms)
    × (with_rooms (gateway_of l.gateway) (take l.i (gateway_of l.gateway).rooms ++ map (swept_room l.clock) (drop l.i (gateway_of l.gateway).rooms)) ≡ with_rooms (gateway_of l.initial.gateway) (map (swept_room l.clock) (gateway_of l.initial.gateway).rooms))
