-- Each case is computed.
use Rattle.std.proofs.Common.{refl}
use Rattle.floor_port.proofs.worked.witnesses_are_worked.Goals as goal

pub returns-clause-ask : goal.returns-clause-ask
returns-clause-ask c = refl

pub returns-clause-over_255 : goal.returns-clause-over_255
returns-clause-over_255 c = refl

pub returns-clause-grant : goal.returns-clause-grant
returns-clause-grant c = refl

pub returns-clause-deny : goal.returns-clause-deny
returns-clause-deny c = refl

pub returns-clause-floor : goal.returns-clause-floor
returns-clause-floor c = refl

pub returns-clause-last : goal.returns-clause-last
returns-clause-last c = refl

pub returns-clause-no_factor : goal.returns-clause-no_factor
returns-clause-no_factor c = refl

pub returns-clause-kinds : goal.returns-clause-kinds
returns-clause-kinds c = refl

pub returns-clause-shorter : goal.returns-clause-shorter
returns-clause-shorter c = refl

pub returns-clause-floors : goal.returns-clause-floors
returns-clause-floors c = refl
