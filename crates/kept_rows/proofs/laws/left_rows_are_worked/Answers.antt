-- Each case is computed.
use Rattle.std.proofs.Common.{refl}
use Rattle.std.specs.Fmt.{digits}
use Rattle.kept_rows.specs.Left.{head, report}
use Rattle.kept_rows.proofs.laws.left_rows_are_worked.Goals as goal

pub returns-clause-new : goal.returns-clause-new
unfolding report head digits
returns-clause-new c = refl

pub returns-clause-before : goal.returns-clause-before
unfolding report head digits
returns-clause-before c = refl

pub returns-clause-all_kept : goal.returns-clause-all_kept
unfolding report head digits
returns-clause-all_kept c = refl

pub returns-clause-no_rows : goal.returns-clause-no_rows
unfolding report head digits
returns-clause-no_rows c = refl

pub returns-clause-no_user : goal.returns-clause-no_user
unfolding report head digits
returns-clause-no_user c = refl

pub returns-clause-second_of_two : goal.returns-clause-second_of_two
unfolding report head digits
returns-clause-second_of_two c = refl

pub returns-clause-nexts : goal.returns-clause-nexts
unfolding report head digits
returns-clause-nexts c = refl

pub returns-clause-no_next : goal.returns-clause-no_next
unfolding report head digits
returns-clause-no_next c = refl

pub returns-clause-bytes : goal.returns-clause-bytes
unfolding report head digits
returns-clause-bytes c = refl

pub returns-clause-long_user : goal.returns-clause-long_user
unfolding report head digits
returns-clause-long_user c = refl
