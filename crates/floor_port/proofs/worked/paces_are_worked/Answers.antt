-- Each case is computed.
use Rattle.std.proofs.Common.{refl}
use Rattle.floor_port.proofs.worked.paces_are_worked.Goals as goal

pub returns-clause-rounds : goal.returns-clause-rounds
returns-clause-rounds c = refl

pub returns-clause-start : goal.returns-clause-start
returns-clause-start c = refl

pub returns-clause-silent : goal.returns-clause-silent
returns-clause-silent c = refl

pub returns-clause-silent_in_a_round : goal.returns-clause-silent_in_a_round
returns-clause-silent_in_a_round c = refl

pub returns-clause-not_silent : goal.returns-clause-not_silent
returns-clause-not_silent c = refl

pub returns-clause-no_member : goal.returns-clause-no_member
returns-clause-no_member c = refl

pub returns-clause-quiet : goal.returns-clause-quiet
returns-clause-quiet c = refl

pub returns-clause-quiet_for_long : goal.returns-clause-quiet_for_long
returns-clause-quiet_for_long c = refl

pub returns-clause-due : goal.returns-clause-due
returns-clause-due c = refl

pub returns-clause-due_in_a_round : goal.returns-clause-due_in_a_round
returns-clause-due_in_a_round c = refl
