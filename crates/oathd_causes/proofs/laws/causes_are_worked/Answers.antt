-- Each case is computed.
use Rattle.std.proofs.Common.{refl}
use Rattle.oathd_causes.proofs.laws.causes_are_worked.Goals as goal

pub returns-clause-files : goal.returns-clause-files
returns-clause-files c = refl

pub returns-clause-sockets : goal.returns-clause-sockets
returns-clause-sockets c = refl

pub returns-clause-keys : goal.returns-clause-keys
returns-clause-keys c = refl

pub returns-clause-addresses : goal.returns-clause-addresses
returns-clause-addresses c = refl
