-- Each case is computed.
use Rattle.std.proofs.Common.{refl}
use Rattle.bundle_port.proofs.worked.receives_are_worked.Goals as goal

pub returns-clause-handed : goal.returns-clause-handed
returns-clause-handed c = refl

pub returns-clause-left : goal.returns-clause-left
returns-clause-left c = refl

pub returns-clause-next : goal.returns-clause-next
returns-clause-next c = refl

pub returns-clause-no_part : goal.returns-clause-no_part
returns-clause-no_part c = refl

pub returns-clause-unchanged : goal.returns-clause-unchanged
returns-clause-unchanged c = refl

pub returns-clause-unchanged_left : goal.returns-clause-unchanged_left
returns-clause-unchanged_left c = refl
