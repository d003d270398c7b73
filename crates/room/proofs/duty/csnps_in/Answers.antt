-- Only line 1 orders.
use Rattle.adjacency.specs.Duty.{csnps_of}
use Rattle.room.specs.Accept.{csnps_in}
use borrow.Author.Rules.{rules}
use Rattle.room.proofs.duty.csnps_in.Goals as goal

pub returns-in-Two : goal.returns-in-Two
unfolding csnps_in csnps_of
returns-in-Two c = search rules

pub returns-in-Three : goal.returns-in-Three
unfolding csnps_in csnps_of
returns-in-Three c = search rules

pub returns-in-Four : goal.returns-in-Four
unfolding csnps_in csnps_of
returns-in-Four c = search rules

pub returns-in-Five : goal.returns-in-Five
unfolding csnps_in csnps_of
returns-in-Five c = search rules
