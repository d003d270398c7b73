-- Refusal 2, a refusal of the reader, or the next stage.
use Rattle.own_words.proofs.FrameLaws.{small, reads-bad, reads-good}
use Rattle.own_words.proofs.WordLaws.{along, refuses}
use Rattle.own_words.specs.Words.{gateway_of}
use Rattle.hello.proofs.KindLaws.{read-kind}
use Rattle.basics.specs.Octets.{big}
use Rattle.basics.specs.declared.refusal.Refusal.TheVariants.{ReplyRoom}
use Rattle.std.proofs.lemmas.Result.{err_from_is_err_and}
use mathlib.Core.Path.{sym, ◌∙◌}
use Rattle.own_words.proofs.frame.read_in.Goals as goal

pub returns-then-reply-lt11 : goal.returns-then-reply-lt11
returns-then-reply-lt11 c = let a = c.args in
    along (small (gateway_of a.gateway.now) a.n a.s (big 6 a.source.now 0) a.frame.now a.reply.now c.if-reply-lt11.true) (refuses a.gateway.now a.n a.reply.now ReplyRoom)

pub check_in-requires : goal.check_in-requires
check_in-requires c =
    let kind = read-kind c.args.s.kind c.args.s.mac c.args.frame.now _ (sym c.read_hello.ensures ∙ c.in_ok-hello.was) in
    (c.requires.0, c.requires.1, c.requires.2, c.if-reply-lt11.false, c.requires.3, c.requires.4, kind)

pub returns-in_err-hello : goal.returns-in_err-hello
returns-in_err-hello c = let a = c.args in
    let p = err_from_is_err_and c.from_residual.result c.from_residual.ensures.1 in
    rw (p.1, p.2) (along (reads-bad (gateway_of a.gateway.now) a.n a.s (big 6 a.source.now 0) a.frame.now a.reply.now c.if-reply-lt11.false _ (sym c.read_hello.ensures ∙ c.in_err-hello.was)) (refuses a.gateway.now a.n a.reply.now _))

pub returns : goal.returns
returns c = let a = c.args in
    along (reads-good (gateway_of a.gateway.now) a.n a.s (big 6 a.source.now 0) a.frame.now a.reply.now c.if-reply-lt11.false _ (sym c.read_hello.ensures ∙ c.in_ok-hello.was)) c.check_in.ensures
