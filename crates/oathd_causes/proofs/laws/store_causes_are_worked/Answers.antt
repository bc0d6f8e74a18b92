-- Each case is computed.
use Rattle.std.proofs.Common.{refl}
use Rattle.oathd_causes.proofs.laws.store_causes_are_worked.Goals as goal

pub returns-clause-none : goal.returns-clause-none
returns-clause-none c = refl

pub returns-clause-unknown : goal.returns-clause-unknown
returns-clause-unknown c = refl

pub returns-clause-one : goal.returns-clause-one
returns-clause-one c = refl

pub returns-clause-version : goal.returns-clause-version
returns-clause-version c = refl

pub returns-clause-node : goal.returns-clause-node
returns-clause-node c = refl

pub returns-clause-rows : goal.returns-clause-rows
returns-clause-rows c = refl

pub returns-clause-by_names : goal.returns-clause-by_names
returns-clause-by_names c = refl

pub returns-clause-named : goal.returns-clause-named
returns-clause-named c = refl

pub returns-clause-unnamed : goal.returns-clause-unnamed
returns-clause-unnamed c = refl
