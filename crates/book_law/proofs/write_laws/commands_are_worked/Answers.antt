use Rattle.std.proofs.Common.{refl}
use Rattle.vote_core.specs.Voting.{raise}
use Rattle.book_law.proofs.write_laws.commands_are_worked.Goals as goal

pub returns-clause-kept : goal.returns-clause-kept
returns-clause-kept c = refl

pub returns-clause-raises : goal.returns-clause-raises
returns-clause-raises c = refl

pub returns-clause-raised_in_order : goal.returns-clause-raised_in_order
unfolding raise
returns-clause-raised_in_order c = refl

pub returns-clause-raised_by_none : goal.returns-clause-raised_by_none
returns-clause-raised_by_none c = refl
