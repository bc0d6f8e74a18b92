-- Each clause is a lemma.
use Rattle.vote_core.proofs.Passes.{rise_holds, told_holds}
use Rattle.vote_core.proofs.laws.floors_tell_all.Goals as goal

pub returns-clause-rise : goal.returns-clause-rise
returns-clause-rise c = rise_holds

pub returns-clause-told : goal.returns-clause-told
returns-clause-told c = told_holds
