-- Each case is computed.
use Rattle.std.proofs.Common.{refl}
use Rattle.std.specs.Fmt.{digits}
use Rattle.operator_text.proofs.worked.requests_are_worked.Goals as goal

pub returns-clause-texts : goal.returns-clause-texts
unfolding digits
returns-clause-texts c = refl

pub returns-clause-readings : goal.returns-clause-readings
unfolding digits
returns-clause-readings c = refl

pub returns-clause-changes : goal.returns-clause-changes
unfolding digits
returns-clause-changes c = refl

pub returns-clause-numbers : goal.returns-clause-numbers
unfolding digits
returns-clause-numbers c = refl

pub returns-clause-no_numbers : goal.returns-clause-no_numbers
unfolding digits
returns-clause-no_numbers c = refl

pub returns-clause-spaces : goal.returns-clause-spaces
unfolding digits
returns-clause-spaces c = refl

pub returns-clause-ends : goal.returns-clause-ends
unfolding digits
returns-clause-ends c = refl

pub returns-clause-words : goal.returns-clause-words
unfolding digits
returns-clause-words c = refl

pub returns-clause-fields : goal.returns-clause-fields
unfolding digits
returns-clause-fields c = refl

pub returns-clause-leading_zero : goal.returns-clause-leading_zero
unfolding digits
returns-clause-leading_zero c = refl

pub returns-clause-beyond_32_bits : goal.returns-clause-beyond_32_bits
unfolding digits
returns-clause-beyond_32_bits c = refl

pub returns-clause-empty_user : goal.returns-clause-empty_user
unfolding digits
returns-clause-empty_user c = refl

pub returns-clause-longest_user : goal.returns-clause-longest_user
unfolding digits
returns-clause-longest_user c = refl

pub returns-clause-user_of_65 : goal.returns-clause-user_of_65
unfolding digits
returns-clause-user_of_65 c = refl

pub returns-clause-longest : goal.returns-clause-longest
unfolding digits
returns-clause-longest c = refl
