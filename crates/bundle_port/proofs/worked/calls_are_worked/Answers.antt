-- Each case is computed.
use Rattle.std.proofs.Common.{refl}
use Rattle.bundle_port.proofs.worked.calls_are_worked.Goals as goal

pub returns-clause-handed : goal.returns-clause-handed
returns-clause-handed c = refl

pub returns-clause-below : goal.returns-clause-below
returns-clause-below c = refl

pub returns-clause-joined : goal.returns-clause-joined
returns-clause-joined c = refl

pub returns-clause-polled : goal.returns-clause-polled
returns-clause-polled c = refl

pub returns-clause-after : goal.returns-clause-after
returns-clause-after c = refl

pub returns-clause-after_flush : goal.returns-clause-after_flush
returns-clause-after_flush c = refl

pub returns-clause-after_poll : goal.returns-clause-after_poll
returns-clause-after_poll c = refl

pub returns-clause-may : goal.returns-clause-may
returns-clause-may c = refl

pub returns-clause-may_not : goal.returns-clause-may_not
returns-clause-may_not c = refl

pub returns-clause-may_when_left : goal.returns-clause-may_when_left
returns-clause-may_when_left c = refl

pub returns-clause-may_not_when_left : goal.returns-clause-may_not_when_left
returns-clause-may_not_when_left c = refl

pub returns-clause-twice : goal.returns-clause-twice
returns-clause-twice c = refl
