-- The control words (house): where each thing stands, and what any words mean. They hold the common part: what is not one circuit's own
-- records.
use Rattle.std.specs.Prelude.{ℕ, zero, suc, ◌+◌, ◌*◌, ◌/◌, ◌%◌, cond, List, [], ◌∷◌, eqb, ltb, get_or, take, drop, Option, Some, None}
use Rattle.basics.specs.declared.kind.CircuitKind.{CircuitKind}
use Rattle.basics.specs.declared.kind.CircuitKind.TheVariants.{Lan, P2p}
use Rattle.settings.specs.declared.lengths.Lengths.{Lengths}
use Rattle.settings.specs.declared.serving.Serving.{Serving}
use Rattle.timer_parts.specs.declared.t2.T2.{T2}
use Rattle.timer_parts.specs.declared.t3.T3.{T3}
use Rattle.timer_parts.specs.declared.t3.T3.TheVariants.{Idle, Runs, Expired}
use Rattle.timers.specs.Memory.{word_count, timers_at}
use Rattle.settings.specs.declared.mode.Mode.{Mode}
use Rattle.settings.specs.declared.mode.Mode.TheVariants.{Running, Restarting, Starting}
use Rattle.timers.specs.declared.head.Head.{Head}
use Rattle.settings.specs.declared.circuit.Circuit.{Circuit}
use Rattle.control.specs.Common.{Common}
use Rattle.basics.specs.Mask.{circuits}

-- the words of this part
abbrev pub control_words : ℕ
control_words = 128

-- ---- the places

abbrev pub seal_place : ℕ
seal_place = 0

abbrev pub count_place : ℕ
count_place = 1

abbrev pub clock_place : ℕ
clock_place = 2

abbrev pub system_place : ℕ
system_place = 3

abbrev pub lengths_place : ℕ
lengths_place = 4

-- the timers' head: its small fields, the deadline of each T2, the deadline of T3
abbrev pub head_place : ℕ
head_place = 5

-- which T1s there are
abbrev pub serving_place : ℕ
serving_place = 9

-- the T1 entries, as the timers' words
abbrev pub entries_place : ℕ
entries_place = 16

abbrev pub entries_end : ℕ
entries_end = entries_place + word_count

-- three words for each circuit: its small fields, its MAC, its extended circuit ID
abbrev pub circuits_place : ℕ
circuits_place = 64

-- ---- the seal

-- the octets ISISGR02; it changes whenever these words are laid out anew, so that memory of another layout counts as never set up
abbrev pub seal : ℕ
seal = 5283647409863405618

-- a word of memory that was set up; in any other memory it counts as 0
unfoldable pub sealed : List ℕ → ℕ → ℕ
sealed ws i = cond (eqb (get_or ws seal_place 0) seal) (get_or ws i 0) 0

-- ---- the lengths

unfoldable pub lengths_in : ℕ → Lengths
lengths_in w = record { t1 = w % 65536; t2 = w / 65536 % 65536; tries = w / 4294967296 % 256 }

-- ---- the circuits

abbrev pub kind_in : ℕ → CircuitKind
kind_in d = cond (eqb d 0) Lan P2p

unfoldable pub circuit_in : ℕ → ℕ → ℕ → Circuit
circuit_in w mac id =
    record {
      kind = kind_in (w % 2);
      levels = record { one = eqb (w / 2 % 2) 1; two = eqb (w / 4 % 2) 1 };
      mac = mac;
      priority = w / 256 % 256;
      hold = w / 65536 % 65536;
      metric = w / 4294967296 % 4294967296;
      id = id % 4294967296;
    }

-- circuit i, from 0
unfoldable pub circuit_at : List ℕ → ℕ → Circuit
circuit_at ws i = circuit_in (get_or ws (circuits_place + 3 * i) 0) (get_or ws (circuits_place + 3 * i + 1) 0) (get_or ws (circuits_place + 3 * i + 2) 0)

-- n circuits from circuit i on
unfoldable pub circuits_from : List ℕ → ℕ → ℕ → List Circuit
circuits_from ws i zero = []
circuits_from ws i (suc n) = circuit_at ws i ∷ circuits_from ws (suc i) n

-- at most 8, and a greater number counts for none; none in memory that was never set up
abbrev pub count_in : ℕ → ℕ
count_in n = cond (ltb circuits n) 0 n

unfoldable pub count_of : List ℕ → ℕ
count_of ws = count_in (sealed ws count_place)

-- ---- the timers' head

abbrev pub mode_in : ℕ → Mode
mode_in d = cond (eqb d 1) Restarting (cond (eqb d 2) Starting Running)

abbrev pub timer_in : ℕ → ℕ → Option ℕ
timer_in d deadline = cond (eqb d 1) (Some deadline) None

abbrev pub t2_in : ℕ → ℕ → ℕ → T2
t2_in d n deadline = record { timer = timer_in d deadline; noticed = eqb n 1 }

abbrev pub t3_in : ℕ → ℕ → T3
t3_in d deadline = cond (eqb d 0) Idle (cond (eqb d 1) (Runs deadline) Expired)

unfoldable pub head_in : ℕ → ℕ → ℕ → ℕ → Head
head_in w a b c =
    record {
      mode = mode_in (w % 4);
      mask = w / 256 % 65536;
      t2s = record { one = t2_in (w / 4 % 2) (w / 8 % 2) a; two = t2_in (w / 16 % 2) (w / 32 % 2) b };
      t3 = t3_in (w / 64 % 4) c;
    }

-- in memory that was never set up the mode is Running and nothing runs
unfoldable pub head_of : List ℕ → Head
head_of ws = head_in (sealed ws head_place) (get_or ws (head_place + 1) 0) (get_or ws (head_place + 2) 0) (get_or ws (head_place + 3) 0)

-- which T1s there are: a mask for each level
unfoldable pub serving_in : ℕ → Serving
serving_in w = record { one = w % 65536; two = w / 65536 % 65536 }

abbrev pub serving_of : List ℕ → Serving
serving_of ws = serving_in (get_or ws serving_place 0)

abbrev pub entries_of : List ℕ → List ℕ
entries_of ws = take word_count (drop entries_place ws)

-- the deadline that is stored; of a timer that does not run any will do
abbrev pub timer_deadline : Option ℕ → ℕ
timer_deadline None = 0
timer_deadline (Some deadline) = deadline

abbrev pub t3_deadline : T3 → ℕ
t3_deadline Idle = 0
t3_deadline (Runs deadline) = deadline
t3_deadline Expired = 0

-- ---- all of it

-- Any words mean some common part. Memory that was never set up has no circuits, and its mode is Running.
unfoldable pub common_of : List ℕ → Common
common_of ws =
    record {
      system = get_or ws system_place 0;
      lengths = lengths_in (get_or ws lengths_place 0);
      circuits = circuits_from ws 0 (count_of ws);
      clock = get_or ws clock_place 0 % 4294967296;
      timers = timers_at (serving_of ws) (head_of ws) (entries_of ws);
    }
