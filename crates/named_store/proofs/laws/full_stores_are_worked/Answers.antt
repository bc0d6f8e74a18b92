use Rattle.std.proofs.Common.{arith}
use Rattle.named_store.proofs.laws.full_stores_are_worked.Goals as goal

pub returns-clause-one_beyond : goal.returns-clause-one_beyond
returns-clause-one_beyond c = λ db names roster own has long. record { roster = roster; own = own; has = has; many = omega (arith, long) }

pub returns-clause-last_one : goal.returns-clause-last_one
returns-clause-last_one c = λ db names full long. let many = full.many in omega (arith, long, many)
