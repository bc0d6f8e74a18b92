use Rattle.std.proofs.Common.{[], refl}
use Rattle.oathd_floors.specs.Examples.{taking_at}
use Rattle.std.specs.Prelude.{false}
use Rattle.oathd_floors.proofs.BrokenLemmas.{one_untaken}
use Rattle.oathd_floors.proofs.laws.floors_can_be_broken.Goals as goal

pub returns-clause-taken : goal.returns-clause-taken
returns-clause-taken c = ([], refl)

pub returns-clause-untaken : goal.returns-clause-untaken
returns-clause-untaken c text fault refused h = one_untaken (taking_at false) text fault h.0 refused h.1
