-- One circuit's table in words (house): its sizes, and what any words mean.
use Rattle.std.specs.Prelude.{ℕ, ◌+◌, ◌*◌, ◌/◌, ◌%◌, ◌<◌, Bool, not, cond, ◌&&◌, List, get_or, eqb, leb}
use Rattle.basics.specs.Lists.{tabulate}
use Rattle.adjacency.specs.declared.record.Record.{Record}
use Rattle.slots.specs.Word.{state_at, state_word, FitState}
use Rattle.adjacency.specs.declared.place.Slot.{Slot}
use Rattle.adjacency.specs.declared.place.Slot.TheVariants.{Free, Held, Closed}

-- ---- sizes

-- the words of a place, the places of a room, and the words of a room
abbrev pub place_words : ℕ
place_words = 4

abbrev pub places : ℕ
places = 16

abbrev pub room_words : ℕ
room_words = places * place_words

-- ---- meaning

-- what four words mean: any four do
abbrev pub slot_of : ℕ → ℕ → ℕ → ℕ → Slot
slot_of system mac expiry w =
    cond (eqb (w % 4) 0) Free
    (cond (eqb (w % 4) 3) Closed
    (Held (record { key = record { level = w / 256 % 256; system = system; mac = mac }; state = state_at expiry w })))

abbrev pub slot_at : List ℕ → ℕ → Slot
slot_at ws i = slot_of (get_or ws (place_words * i) 0) (get_or ws (place_words * i + 1) 0) (get_or ws (place_words * i + 2) 0) (get_or ws (place_words * i + 3) 0)

-- a circuit's table
unfoldable pub table_of : List ℕ → List Slot
table_of ws = tabulate (slot_at ws) places

-- the word of a record's small fields
abbrev pub record_word : Record → ℕ
record_word r = state_word r.state + 256 * r.key.level

abbrev pub FitRecord : Record → Type 0
FitRecord r = (r.key.level < 256) × FitState r.state

-- what the code asks of single words

abbrev pub held_word : ℕ → Bool
held_word w = not (eqb (w % 4) 0) && not (eqb (w % 4) 3)

-- the expiry word of place i is at or below the clock, whatever stands there
abbrev pub due_at : ℕ → List ℕ → ℕ → Bool
due_at clock ws i = leb (get_or ws (place_words * i + 2) 0) clock
