-- All are computed.
use Rattle.std.proofs.Common.{refl}
use Rattle.served_law.proofs.run_laws.stretches_are_numbered.Goals as goal

pub returns-clause-unlocks : goal.returns-clause-unlocks
returns-clause-unlocks c = λ old new result number unlocks. refl

pub returns-clause-reads : goal.returns-clause-reads
returns-clause-reads c = λ old new result reads. refl

pub returns-clause-nothing : goal.returns-clause-nothing
returns-clause-nothing c = refl

pub returns-clause-none : goal.returns-clause-none
returns-clause-none c = λ are. refl

pub returns-clause-numbers : goal.returns-clause-numbers
returns-clause-numbers c = λ old now first entries asked told turns left one other are. refl

pub returns-clause-records : goal.returns-clause-records
returns-clause-records c = λ old now first entries asked told turns left one other are. refl
