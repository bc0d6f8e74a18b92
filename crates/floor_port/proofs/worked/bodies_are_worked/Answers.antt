-- Each case is computed.
use Rattle.std.proofs.Common.{refl}
use Rattle.floor_port.proofs.worked.bodies_are_worked.Goals as goal

pub returns-clause-written : goal.returns-clause-written
returns-clause-written c = refl

pub returns-clause-read : goal.returns-clause-read
returns-clause-read c = refl

pub returns-clause-none : goal.returns-clause-none
returns-clause-none c = refl

pub returns-clause-no_bytes : goal.returns-clause-no_bytes
returns-clause-no_bytes c = refl

pub returns-clause-shorter : goal.returns-clause-shorter
returns-clause-shorter c = refl

pub returns-clause-longer : goal.returns-clause-longer
returns-clause-longer c = refl

pub returns-clause-counts : goal.returns-clause-counts
returns-clause-counts c = refl

pub returns-clause-too_many : goal.returns-clause-too_many
returns-clause-too_many c = refl

pub returns-clause-last : goal.returns-clause-last
returns-clause-last c = refl

pub returns-clause-above : goal.returns-clause-above
returns-clause-above c = refl

pub returns-clause-one_of_two_above : goal.returns-clause-one_of_two_above
returns-clause-one_of_two_above c = refl

pub returns-clause-several : goal.returns-clause-several
returns-clause-several c = refl

pub returns-clause-one : goal.returns-clause-one
returns-clause-one c = refl

pub returns-clause-one_longer : goal.returns-clause-one_longer
returns-clause-one_longer c = refl

pub returns-clause-votes : goal.returns-clause-votes
returns-clause-votes c = refl
