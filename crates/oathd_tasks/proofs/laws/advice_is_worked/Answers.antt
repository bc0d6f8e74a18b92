use Rattle.std.proofs.Common.{refl}
use Rattle.std.specs.Fmt.{digits}
use Rattle.oathd_tasks.specs.Advice.{advice_line}
use Rattle.oathd_tasks.proofs.laws.advice_is_worked.Goals as goal

pub returns-clause-lines : goal.returns-clause-lines
unfolding advice_line digits
returns-clause-lines c = refl

pub returns-clause-base32 : goal.returns-clause-base32
unfolding advice_line digits
returns-clause-base32 c = refl

pub returns-clause-no_user : goal.returns-clause-no_user
unfolding advice_line digits
returns-clause-no_user c = refl

pub returns-clause-cluster : goal.returns-clause-cluster
unfolding advice_line digits
returns-clause-cluster c = refl

pub returns-clause-key : goal.returns-clause-key
unfolding advice_line digits
returns-clause-key c = refl

pub returns-clause-file : goal.returns-clause-file
unfolding advice_line digits
returns-clause-file c = refl

pub returns-clause-path : goal.returns-clause-path
unfolding advice_line digits
returns-clause-path c = refl

pub returns-clause-mark : goal.returns-clause-mark
unfolding advice_line digits
returns-clause-mark c = refl

pub returns-clause-row : goal.returns-clause-row
returns-clause-row c = refl

pub returns-clause-clients : goal.returns-clause-clients
returns-clause-clients c = refl
