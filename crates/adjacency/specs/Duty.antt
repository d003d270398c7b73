-- Who sends the CSNPs (document 01, "Marks and holding time"; RFC 8706, 3.2.1): line 1 also orders CSNPs and flooding marks.
use Rattle.std.specs.Prelude.{ℕ, Bool, true, false, not, cond, ◌||◌, ◌&&◌, eqb, ltb, Option, Some, None}
use Rattle.basics.specs.Levels.{only_level}
use Rattle.basics.specs.declared.levels.Levels.{Levels}
use Rattle.hello.specs.declared.read.Link.{Link}
use Rattle.hello.specs.declared.read.Link.TheVariants.{Lan, P2p}
use Rattle.adjacency.specs.declared.record.Mark.{Mark}
use Rattle.adjacency.specs.declared.record.Mark.TheVariants.{Clear, Restart, Planned}
use Rattle.adjacency.specs.declared.record.State.{State}
use Rattle.adjacency.specs.declared.record.State.TheVariants.{Init, Up}
use Rattle.adjacency.specs.declared.record.Record.{Record}
use Rattle.adjacency.specs.declared.marks.Line.{Line}
use Rattle.adjacency.specs.declared.marks.Line.TheVariants.{One, Two, Three, Four, Five}
use Rattle.adjacency.specs.declared.duty.Rank.{Rank}

-- a greater pair (priority, MAC) than ours; equal pairs are not greater
abbrev pub greater : Rank → ℕ → ℕ → Bool
greater own priority mac = ltb own.priority priority || (eqb own.priority priority && ltb own.mac mac)

abbrev pub marks_restart : Mark → Bool
marks_restart Clear = false
marks_restart Restart = true
marks_restart Planned = false

-- some other router, UP at that level, with a Restart TLV in its last frame and not marked Restart
abbrev pub rival : Rank → ℕ → State → Bool
rival own mac (Init d) = false
rival own mac (Up d m) = d.last.tlv && (not (marks_restart m) && greater own d.last.priority mac)

unfoldable pub outranks : Rank → Record → Bool
outranks own r = eqb r.key.level own.level && rival own r.key.mac r.state

-- on P2P always, for all the circuit's levels; on a LAN for the frame's level, unless some other router has the greater pair
abbrev pub link_csnps : Levels → Link → Bool → Option Levels
link_csnps l (P2p t) outranked = Some l
link_csnps l (Lan level priority listed) outranked = cond outranked None (Some (only_level level))

unfoldable pub csnps_of : Line → Levels → Link → Bool → Option Levels
csnps_of One l k outranked = link_csnps l k outranked
csnps_of Two l k outranked = None
csnps_of Three l k outranked = None
csnps_of Four l k outranked = None
csnps_of Five l k outranked = None
