use Rattle.std.proofs.Common.{refl}
use Rattle.node_reports.proofs.laws.readers_can_be_broken.Goals as goal

pub returns-clause-unlocks : goal.returns-clause-unlocks
returns-clause-unlocks c token is = rw is refl
