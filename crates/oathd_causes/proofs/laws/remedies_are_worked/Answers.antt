-- Each case is computed.
use Rattle.std.proofs.Common.{refl}
use Rattle.oathd_causes.proofs.laws.remedies_are_worked.Goals as goal

pub returns-clause-missing : goal.returns-clause-missing
returns-clause-missing c = refl

pub returns-clause-database : goal.returns-clause-database
returns-clause-database c = refl

pub returns-clause-others : goal.returns-clause-others
returns-clause-others c = refl

pub returns-clause-roles : goal.returns-clause-roles
returns-clause-roles c = refl

pub returns-clause-first_role : goal.returns-clause-first_role
returns-clause-first_role c = refl

pub returns-clause-second_role : goal.returns-clause-second_role
returns-clause-second_role c = refl

pub returns-clause-third_role : goal.returns-clause-third_role
returns-clause-third_role c = refl

pub returns-clause-unfound : goal.returns-clause-unfound
returns-clause-unfound c = refl
