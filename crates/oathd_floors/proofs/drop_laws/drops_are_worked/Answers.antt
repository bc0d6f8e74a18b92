-- Each case is computed.
use Rattle.std.proofs.Common.{refl}
use Rattle.std.specs.Fmt.{digits}
use Rattle.oathd_floors.specs.Dropped.{drop_text}
use Rattle.oathd_floors.proofs.drop_laws.drops_are_worked.Goals as goal

pub returns-clause-row : goal.returns-clause-row
returns-clause-row c = refl

pub returns-clause-retired : goal.returns-clause-retired
returns-clause-retired c = refl

pub returns-clause-rows : goal.returns-clause-rows
returns-clause-rows c = refl

pub returns-clause-no_rows : goal.returns-clause-no_rows
returns-clause-no_rows c = refl

pub returns-clause-counts : goal.returns-clause-counts
returns-clause-counts c = refl

pub returns-clause-text : goal.returns-clause-text
unfolding digits drop_text
returns-clause-text c = refl
