-- A frame handed over in chunks (document 02, W-205): a circuit's unfinished frame, what a chunk makes of it, and any chunks one after another.
use Rattle.std.specs.Prelude.{ℕ, ◌+◌, cond, List, [], ◌∷◌, ◌++◌, length, ltb}
use Rattle.basics.specs.declared.refusal.Refusal.{Refusal}
use Rattle.basics.specs.declared.refusal.Refusal.TheVariants.{NotBegun, TooLong}

-- "Each circuit has its own unfinished frame": its source MAC, and the octets joined so far
pub data Unfinished : Type 0 where
  NoFrame : Unfinished
  Frame : (mac : ℕ) (octets : List ℕ) → Unfinished

-- "A caller begins a frame on a circuit with its source MAC"
abbrev pub begun : ℕ → Unfinished
begun mac = Frame mac []

-- 14: "more than 1,500 octets joined"
abbrev pub most_octets : ℕ
most_octets = 1500

pub data Joined : Type 0 where
  Refused : Refusal → Joined
  As : Unfinished → Joined

-- "adds chunks": 13, "chunk or end with none begun", and then 14
unfoldable pub join : Unfinished → List ℕ → Joined
join NoFrame chunk = Refused NotBegun
join (Frame mac octets) chunk = cond (ltb most_octets (length octets + length chunk)) (Refused TooLong) (As (Frame mac (octets ++ chunk)))

-- after a chunk: "the unfinished frame stays as it was" where it is refused
unfoldable pub after : Unfinished → Joined → Unfinished
after u (Refused x) = u
after u (As v) = v

-- after chunks, one after another
unfoldable pub after_all : Unfinished → List (List ℕ) → Unfinished
after_all u [] = u
after_all u (c ∷ cs) = after_all (after u (join u c)) cs

-- "the joined octets"
unfoldable pub joined : List (List ℕ) → List ℕ
joined [] = []
joined (c ∷ cs) = c ++ joined cs
