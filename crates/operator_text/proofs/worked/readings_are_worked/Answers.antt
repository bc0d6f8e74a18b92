-- Each case is computed.
use Rattle.std.proofs.Common.{refl}
use Rattle.std.specs.Fmt.{digits}
use Rattle.operator_text.proofs.worked.readings_are_worked.Goals as goal

pub returns-clause-last : goal.returns-clause-last
unfolding digits
returns-clause-last c = refl

pub returns-clause-next : goal.returns-clause-next
unfolding digits
returns-clause-next c = refl

pub returns-clause-no_line : goal.returns-clause-no_line
unfolding digits
returns-clause-no_line c = refl

pub returns-clause-no_line_yet : goal.returns-clause-no_line_yet
unfolding digits
returns-clause-no_line_yet c = refl

pub returns-clause-empty_line : goal.returns-clause-empty_line
unfolding digits
returns-clause-empty_line c = refl

pub returns-clause-empty_lines : goal.returns-clause-empty_lines
unfolding digits
returns-clause-empty_lines c = refl

pub returns-clause-last_number : goal.returns-clause-last_number
unfolding digits
returns-clause-last_number c = refl

pub returns-clause-ends_inside : goal.returns-clause-ends_inside
unfolding digits
returns-clause-ends_inside c = refl

pub returns-clause-two_ends : goal.returns-clause-two_ends
unfolding digits
returns-clause-two_ends c = refl

pub returns-clause-no_last_line : goal.returns-clause-no_last_line
unfolding digits
returns-clause-no_last_line c = refl

pub returns-clause-no_lf : goal.returns-clause-no_lf
unfolding digits
returns-clause-no_lf c = refl

pub returns-clause-words : goal.returns-clause-words
unfolding digits
returns-clause-words c = refl

pub returns-clause-numbers : goal.returns-clause-numbers
unfolding digits
returns-clause-numbers c = refl
