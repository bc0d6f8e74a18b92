-- Each case is computed.
use Rattle.std.proofs.Common.{refl}
use Rattle.std.specs.Fmt.{digits}
use Rattle.operator_text.proofs.worked.pushes_are_worked.Goals as goal

pub returns-clause-new : goal.returns-clause-new
unfolding digits
returns-clause-new c = refl

pub returns-clause-one : goal.returns-clause-one
unfolding digits
returns-clause-one c = refl

pub returns-clause-two : goal.returns-clause-two
unfolding digits
returns-clause-two c = refl

pub returns-clause-last_byte : goal.returns-clause-last_byte
unfolding digits
returns-clause-last_byte c = refl

pub returns-clause-no_byte : goal.returns-clause-no_byte
unfolding digits
returns-clause-no_byte c = refl

pub returns-clause-after_a_refusal : goal.returns-clause-after_a_refusal
unfolding digits
returns-clause-after_a_refusal c = refl

pub returns-clause-last_number : goal.returns-clause-last_number
unfolding digits
returns-clause-last_number c = refl

pub returns-clause-no_number : goal.returns-clause-no_number
unfolding digits
returns-clause-no_number c = refl

pub returns-clause-taken : goal.returns-clause-taken
unfolding digits
returns-clause-taken c = refl

pub returns-clause-texts : goal.returns-clause-texts
unfolding digits
returns-clause-texts c = refl
