use Rattle.std.proofs.Common.{refl, arith}
use Rattle.roster_sql.specs.Examples.{entry_of}
use Rattle.named_store.proofs.laws.looks_are_worked.Goals as goal

pub returns-clause-first : goal.returns-clause-first
returns-clause-first c = record { token = entry_of 8 1; there = refl; absent = refl; before = refl }

pub returns-clause-behind_a_known_one : goal.returns-clause-behind_a_known_one
returns-clause-behind_a_known_one c = record { token = entry_of 8 1; there = refl; absent = refl; before = refl }

pub returns-clause-twice : goal.returns-clause-twice
returns-clause-twice c = λ h. h.distinct 0 1 (entry_of 8 1) (omega arith) (omega arith) refl
