-- Each case is computed.
use Rattle.std.proofs.Common.{refl}
use Rattle.oathd_database.proofs.laws.unlocking_is_worked.Goals as goal

pub returns-clause-first : goal.returns-clause-first
returns-clause-first c = refl

pub returns-clause-second : goal.returns-clause-second
returns-clause-second c = refl

pub returns-clause-open_one : goal.returns-clause-open_one
returns-clause-open_one c = refl

pub returns-clause-no_token : goal.returns-clause-no_token
returns-clause-no_token c = refl
