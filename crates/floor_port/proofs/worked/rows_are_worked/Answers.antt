-- Each case is computed.
use Rattle.std.proofs.Common.{refl}
use Rattle.floor_port.proofs.worked.rows_are_worked.Goals as goal

pub returns-clause-news : goal.returns-clause-news
returns-clause-news c = refl

pub returns-clause-raised : goal.returns-clause-raised
returns-clause-raised c = refl

pub returns-clause-some : goal.returns-clause-some
returns-clause-some c = refl

pub returns-clause-known : goal.returns-clause-known
returns-clause-known c = refl

pub returns-clause-same_twice : goal.returns-clause-same_twice
returns-clause-same_twice c = refl

pub returns-clause-greater_after : goal.returns-clause-greater_after
returns-clause-greater_after c = refl

pub returns-clause-smaller_after : goal.returns-clause-smaller_after
returns-clause-smaller_after c = refl

pub returns-clause-next : goal.returns-clause-next
returns-clause-next c = refl

pub returns-clause-next_from : goal.returns-clause-next_from
returns-clause-next_from c = refl

pub returns-clause-most : goal.returns-clause-most
returns-clause-most c = refl

pub returns-clause-rest : goal.returns-clause-rest
returns-clause-rest c = refl

pub returns-clause-turns : goal.returns-clause-turns
returns-clause-turns c = refl

pub returns-clause-around : goal.returns-clause-around
returns-clause-around c = refl

pub returns-clause-all : goal.returns-clause-all
returns-clause-all c = refl

pub returns-clause-rows : goal.returns-clause-rows
returns-clause-rows c = refl
