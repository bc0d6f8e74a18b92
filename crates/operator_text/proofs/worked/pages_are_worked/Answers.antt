-- Each case is computed.
use Rattle.std.proofs.Common.{refl}
use Rattle.std.specs.Fmt.{digits}
use Rattle.operator_text.proofs.worked.pages_are_worked.Goals as goal

pub returns-clause-no_line : goal.returns-clause-no_line
unfolding digits
returns-clause-no_line c = refl

pub returns-clause-no_line_left : goal.returns-clause-no_line_left
unfolding digits
returns-clause-no_line_left c = refl

pub returns-clause-one_line : goal.returns-clause-one_line
unfolding digits
returns-clause-one_line c = refl

pub returns-clause-three : goal.returns-clause-three
unfolding digits
returns-clause-three c = refl

pub returns-clause-longest_line : goal.returns-clause-longest_line
unfolding digits
returns-clause-longest_line c = refl

pub returns-clause-full : goal.returns-clause-full
unfolding digits
returns-clause-full c = refl

pub returns-clause-one_byte_more : goal.returns-clause-one_byte_more
unfolding digits
returns-clause-one_byte_more c = refl

pub returns-clause-after_full : goal.returns-clause-after_full
unfolding digits
returns-clause-after_full c = refl

pub returns-clause-in_order : goal.returns-clause-in_order
unfolding digits
returns-clause-in_order c = refl

pub returns-clause-longest : goal.returns-clause-longest
unfolding digits
returns-clause-longest c = refl

pub returns-clause-last_number : goal.returns-clause-last_number
unfolding digits
returns-clause-last_number c = refl

pub returns-clause-no_number : goal.returns-clause-no_number
unfolding digits
returns-clause-no_number c = refl

pub returns-clause-ends_inside : goal.returns-clause-ends_inside
unfolding digits
returns-clause-ends_inside c = refl
