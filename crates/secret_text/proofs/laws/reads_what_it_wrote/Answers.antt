use Rattle.secret_text.proofs.LawLemmas.{alone, spelled, taken}
use Rattle.secret_text.proofs.laws.reads_what_it_wrote.Goals as goal

pub returns-clause-taken : goal.returns-clause-taken
returns-clause-taken c = λ secret len. taken secret len

pub returns-clause-spelled : goal.returns-clause-spelled
returns-clause-spelled c = λ secret bytes. spelled secret bytes

pub returns-clause-alone : goal.returns-clause-alone
returns-clause-alone c = λ secret other bytes h. alone secret other bytes h
