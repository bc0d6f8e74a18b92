-- Two tokens have one name, and a table of a store is there.
use Rattle.std.proofs.Common.{inl, inr, refl, arith}
use Rattle.roster_sql.specs.Examples.{entry_of}
use Rattle.named_floors.proofs.MadeLemmas.{gathered_alone}
use Rattle.named_floors.proofs.laws.faults_are_worked.Goals as goal

pub returns-clause-alike : goal.returns-clause-alike
returns-clause-alike c db = record {
  known = inl refl;
  unusable = λ is. inl (λ distinct. distinct 0 1 (entry_of 5 6) (omega arith) (omega arith) refl);
}

pub returns-clause-there : goal.returns-clause-there
returns-clause-there c db own = record { known = inr (refl, own); unusable = λ is. absurd cc }

pub returns-clause-room : goal.returns-clause-room
returns-clause-room c db gathered all more = omega (arith, gathered_alone gathered, all, more)

pub returns-clause-no_room : goal.returns-clause-no_room
returns-clause-no_room c db gathered all = omega (arith, gathered_alone gathered, all)
