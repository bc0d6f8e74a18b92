-- Each case is computed.
use Rattle.std.proofs.Common.{refl}
use Rattle.bundle_port.proofs.worked.flushes_are_worked.Goals as goal

pub returns-clause-offered : goal.returns-clause-offered
returns-clause-offered c = refl

pub returns-clause-handed : goal.returns-clause-handed
returns-clause-handed c = refl

pub returns-clause-offered_once : goal.returns-clause-offered_once
returns-clause-offered_once c = refl

pub returns-clause-in_order : goal.returns-clause-in_order
returns-clause-in_order c = refl

pub returns-clause-nothing_waits : goal.returns-clause-nothing_waits
returns-clause-nothing_waits c = refl

pub returns-clause-after : goal.returns-clause-after
returns-clause-after c = refl

pub returns-clause-busy : goal.returns-clause-busy
returns-clause-busy c = refl

pub returns-clause-left : goal.returns-clause-left
returns-clause-left c = refl

pub returns-clause-own : goal.returns-clause-own
returns-clause-own c = refl

pub returns-clause-may : goal.returns-clause-may
returns-clause-may c = refl
