-- What the T1s that there are, the head and the lent words mean: any of them are some timers.
use Rattle.std.specs.Prelude.{ℕ, zero, suc, ◌+◌, ◌*◌, ◌/◌, ◌%◌, Bool, List, [], ◌∷◌, eqb, get_or}
use Rattle.basics.specs.Mask.{t1_places, bits_of}
use Rattle.timer_parts.specs.declared.t1.Entry.{Entry}
use Rattle.timer_parts.specs.declared.t1.T1.{T1}
use Rattle.settings.specs.declared.serving.Serving.{Serving}
use Rattle.timers.specs.declared.head.Head.{Head}
use Rattle.timers.specs.Timers.{Timers}

-- how many T1s there are (document 02, W-202: two places for each circuit), and a mask's digits for them
abbrev pub t1_count : ℕ
t1_count = t1_places

abbrev pub t1_bits : ℕ → List Bool
t1_bits m = bits_of t1_count m

-- two words for each
abbrev pub word_count : ℕ
word_count = 2 * t1_count

-- the deadline; the expiries, the acknowledgement, the CSNP sets, and whether it ever began
unfoldable pub entry_of : ℕ → ℕ → Entry
entry_of a b =
    record {
      begun = eqb (b / 2048 % 2) 1;
      deadline = a;
      tries = b % 256;
      acked = eqb (b / 256 % 2) 1;
      sets = record { one = eqb (b / 512 % 2) 1; two = eqb (b / 1024 % 2) 1 };
    }

-- the entry in place i
unfoldable pub entry_at : List ℕ → ℕ → Entry
entry_at ws i = entry_of (get_or ws (2 * i) 0) (get_or ws (2 * i + 1) 0)

-- the T1s of a mask's digits and of entries
unfoldable pub joined : List Bool → (ℕ → Entry) → List T1
joined [] e = []
joined (b ∷ bs) e = record { runs = b; entry = e zero } ∷ joined bs (λ i. e (suc i))

abbrev pub t1s_at : ℕ → List ℕ → List T1
t1s_at m ws = joined (t1_bits m) (entry_at ws)

unfoldable pub timers_of : Serving → Head → (ℕ → Entry) → Timers
timers_of v h e = record { mode = h.mode; serving = v; t1s = joined (t1_bits h.mask) e; t2s = h.t2s; t3 = h.t3 }

abbrev pub timers_at : Serving → Head → List ℕ → Timers
timers_at v h ws = timers_of v h (entry_at ws)
