-- The two entries with one name.
use Rattle.std.proofs.Common.{refl, arith}
use Rattle.roster_sql.specs.Examples.{entry_of}
use Rattle.named_store.proofs.laws.seats_are_worked.Goals as goal

pub returns-clause-twice : goal.returns-clause-twice
returns-clause-twice c = λ h. h 1 2 (entry_of 8 1) (omega arith) (omega arith) refl
