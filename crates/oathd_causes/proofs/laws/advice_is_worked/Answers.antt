-- Each case is computed.
use Rattle.std.proofs.Common.{refl}
use Rattle.oathd_causes.proofs.laws.advice_is_worked.Goals as goal

pub returns-clause-files : goal.returns-clause-files
returns-clause-files c = refl

pub returns-clause-together : goal.returns-clause-together
returns-clause-together c = refl
