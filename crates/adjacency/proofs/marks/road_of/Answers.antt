-- A TLV that counts gives its line and its time; without one, or with one that is ignored, all flags are clear.
use Rattle.restart_tlv.proofs.RestartLaws.{not-present}
use Rattle.adjacency.specs.Marks.{line_of}
use Rattle.adjacency.proofs.ClearLaws.{clear-road}
use Rattle.adjacency.proofs.marks.road_of.Goals as goal

pub returns-in_default : goal.returns-in_default
returns-in_default c =
    let s = c.args in
    rw (c.last_line.ensures, c.is_suppressed_by.ensures)
    (clear-road s.tlv s.mark s.was s.phase s.after (not-present s.tlv c.in_default.not-Present))

pub returns : goal.returns
unfolding line_of
returns c = rw (c.line_by.ensures, c.is_suppressed_by-2.ensures, c.in-Present.is)
