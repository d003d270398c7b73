-- Each return is one test of `hello_read`.
use Rattle.hello.proofs.HelloLaws.{eight, header-least}
use Rattle.hello.proofs.KindLaws.{same-kinds}
use Rattle.hello.specs.Hello.{hello_read, layout_read}
use native.Mathlib.Omega.{arith}
use mathlib.Core.Path.{sym, ◌∙◌}
use Rattle.hello.proofs.read.read_hello.Goals as goal

pub returns-then-is_not_hello : goal.returns-then-is_not_hello
unfolding hello_read
returns-then-is_not_hello c = rw (sym c.is_not_hello.ensures ∙ c.if-is_not_hello.true)

pub bounds-frame-4 : goal.bounds-frame-4
bounds-frame-4 c = omega (arith, eight _ (sym c.is_not_hello.ensures ∙ c.if-is_not_hello.false))

pub returns-in_default : goal.returns-in_default
unfolding hello_read layout_read
returns-in_default c = rw (sym c.is_not_hello.ensures ∙ c.if-is_not_hello.false, sym c.select_layout.ensures ∙ c.in_default.is)

pub read_as-requires : goal.read_as-requires
read_as-requires c =
    let e = c.select_layout.ensures in
    let f = c.in-Some.is in
    (header-least _ _ _ e f, sym e ∙ f)

pub returns-then-eq : goal.returns-then-eq
unfolding hello_read
returns-then-eq c =
    let k = sym (same-kinds _ _) ∙ sym c.eq.ensures ∙ c.if-eq.true in
    rw (sym c.is_not_hello.ensures ∙ c.if-is_not_hello.false, sym c.select_layout.ensures ∙ c.in-Some.is, k) c.read_as.ensures

pub returns : goal.returns
unfolding hello_read layout_read
returns c =
    let k = sym (same-kinds _ _) ∙ sym c.eq.ensures ∙ c.if-eq.false in
    rw (sym c.is_not_hello.ensures ∙ c.if-is_not_hello.false, sym c.select_layout.ensures ∙ c.in-Some.is, k)
