-- Who has the CSNP duty on a LAN (document 01, "Marks and holding time"; document 02, W-204: "the greatest pair (priority, MAC) that has the duty").
use Rattle.std.specs.Prelude.{ℕ, Bool, cond, ◌&&◌, ◌||◌, List, [], ◌∷◌, eqb, ltb, Option, Some, None}
use Rattle.adjacency.specs.Duty.{outranks}
use Rattle.adjacency.specs.declared.duty.Rank.{Rank}
use Rattle.adjacency.specs.declared.record.Record.{Record}
use Rattle.adjacency.specs.declared.place.Slot.{Slot}
use Rattle.adjacency.specs.declared.place.Slot.TheVariants.{Free, Held, Closed}
use Rattle.model.specs.Answers.{last_of}
use Rattle.reasons.specs.declared.why.Router.{Router}

-- the priority of its last accepted frame
abbrev pub priority_in : Record → ℕ
priority_in r = (last_of r.state).priority

abbrev pub theirs : Record → Router
theirs r = record { system = r.key.system; priority = priority_in r; mac = r.key.mac }

-- a router's pair, at our level
abbrev pub pair_at : Rank → ℕ → ℕ → Rank
pair_at own priority mac = record { level = own.level; priority = priority; mac = mac }

-- One MAC may have several System IDs: of records with one pair the lower System ID is named (house), wherever they are kept.
abbrev pub is_tie : ℕ → ℕ → ℕ → Record → Bool
is_tie system priority mac r = eqb (priority_in r) priority && (eqb r.key.mac mac && ltb r.key.system system)

-- the record goes before the router that had the duty, with this pair
abbrev pub ahead_of : Rank → ℕ → ℕ → ℕ → Record → Bool
ahead_of own system priority mac r = outranks (pair_at own priority mac) r || (outranks own r && is_tie system priority mac r)

-- who has it, if not we, once this record is looked at too: "some other router, UP at that level on that circuit, with a Restart TLV in its last frame and not
-- marked Restart", whose pair is greater than ours and than that of the router that had it
unfoldable pub duty_with : Rank → Option Router → Record → Option Router
duty_with own None r = cond (outranks own r) (Some (theirs r)) None
duty_with own (Some d) r = cond (ahead_of own d.system d.priority d.mac r) (Some (theirs r)) (Some d)

unfoldable pub duty_at : Rank → Option Router → Slot → Option Router
duty_at own d Free = d
duty_at own d (Held r) = duty_with own d r
duty_at own d Closed = d

unfoldable pub duty_from : Rank → Option Router → List Slot → Option Router
duty_from own d [] = d
duty_from own d (s ∷ t) = duty_from own (duty_at own d s) t

abbrev pub duty_in : Rank → List Slot → Option Router
duty_in own t = duty_from own None t
