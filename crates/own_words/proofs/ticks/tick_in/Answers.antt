-- No circuit, refusal 10, or the tick.
use Rattle.basics.specs.Mask.{bits_of}
use Rattle.own_words.proofs.CallLaws.{tick-none, tick-back, tick-took}
use native.Mathlib.Omega.{arith}
use mathlib.Core.Logic.{◌≢◌}
use Rattle.own_words.proofs.ticks.tick_in.Goals as goal

pub returns-then-count_of-eq0 : goal.returns-then-count_of-eq0
unfolding bits_of
returns-then-count_of-eq0 c = let a = c.args in tick-none a.gateway.now a.clock _ c.count_of.ensures.0 c.if-count_of-eq0.true

pub returns-then-clock-clock_of : goal.returns-then-clock-clock_of
returns-then-clock-clock_of c = let a = c.args in let n : c.count_of.result ≢ 0 = c.if-count_of-eq0.false in tick-back a.gateway.now a.clock c.count_of.result c.count_of.ensures.0 (omega arith) _ c.clock_of.ensures c.if-clock-clock_of.true

pub returns : goal.returns
returns c = let a = c.args in let n : c.count_of.result ≢ 0 = c.if-count_of-eq0.false in let x = c.sweep_all in tick-took a.gateway.now a.clock c.count_of.result c.count_of.ensures.0 (omega arith) _ x.new.gateway _ c.clock_of.ensures c.if-clock-clock_of.false x.ensures
