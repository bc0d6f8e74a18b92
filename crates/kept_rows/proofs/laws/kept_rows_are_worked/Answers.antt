-- Each case is computed.
use Rattle.std.proofs.Common.{refl}
use Rattle.kept_rows.proofs.laws.kept_rows_are_worked.Goals as goal

pub returns-clause-some : goal.returns-clause-some
returns-clause-some c = refl

pub returns-clause-order : goal.returns-clause-order
returns-clause-order c = refl

pub returns-clause-no_last_end : goal.returns-clause-no_last_end
returns-clause-no_last_end c = refl

pub returns-clause-no_text : goal.returns-clause-no_text
returns-clause-no_text c = refl

pub returns-clause-none : goal.returns-clause-none
returns-clause-none c = refl

pub returns-clause-bytes_alone : goal.returns-clause-bytes_alone
returns-clause-bytes_alone c = refl
