-- A header that passed bounds the PDU, which is lent as a part of its own.
use Rattle.hello.proofs.HelloLaws.{lengths}
use Rattle.hello.specs.Hello.{layout_read}
use lib.Seq.{length-take-le, get_or-take}
use Prim.Native.Nat.{◌≤◌}
use native.Mathlib.Omega.{arith}
use mathlib.Core.Path.{sym, ◌∙◌}
use Rattle.hello.proofs.read.read_as.Goals as goal

pub returns-then-is_bad_length : goal.returns-then-is_bad_length
unfolding layout_read
returns-then-is_bad_length c = rw (sym c.is_bad_length.ensures ∙ c.if-is_bad_length.true)

pub two-end-requires : goal.two-end-requires
two-end-requires c = omega (arith, (lengths c.args.frame.now c.args.layout.header (sym c.is_bad_length.ensures ∙ c.if-is_bad_length.false)).header, c.requires.0)

pub slice_bounds-read_pdu-end : goal.slice_bounds-read_pdu-end
slice_bounds-read_pdu-end c = sym (length-take-le _ _ (omega (arith, (lengths c.args.frame.now c.args.layout.header (sym c.is_bad_length.ensures ∙ c.if-is_bad_length.false)).lent)))

pub read_pdu-requires : goal.read_pdu-requires
read_pdu-requires c =
    let g = (lengths c.args.frame.now c.args.layout.header (sym c.is_bad_length.ensures ∙ c.if-is_bad_length.false)) in
    let n : 20 ≤ c.two-end.result = omega (arith, g.low, c.requires.0) in
    (rw (length-take-le c.two-end.result c.args.frame.now (omega (arith, g.lent))) (omega (arith, n, g.high)), rw (get_or-take c.two-end.result c.args.frame.now 4 0 (omega (arith, n))) c.requires.1)

pub returns : goal.returns
unfolding layout_read
returns c = rw (sym c.is_bad_length.ensures ∙ c.if-is_bad_length.false, ← c.two-end.ensures) c.read_pdu.ensures
