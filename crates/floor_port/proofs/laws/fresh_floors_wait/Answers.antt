use Rattle.std.proofs.Common.{refl}
use Rattle.floor_port.proofs.FreshLemmas.{next_waits, raised_waits}
use Rattle.floor_port.proofs.laws.fresh_floors_wait.Goals as goal

pub returns-clause-waits : goal.returns-clause-waits
returns-clause-waits c = next_waits

pub returns-clause-raised : goal.returns-clause-raised
returns-clause-raised c = raised_waits

pub returns-clause-quiet : goal.returns-clause-quiet
returns-clause-quiet c = λ packer. refl
