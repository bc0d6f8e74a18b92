-- Each case is computed.
use Rattle.std.proofs.Common.{refl}
use Rattle.std.specs.Fmt.{digits}
use Rattle.client_lines.proofs.laws.answers_are_worked.Goals as goal

pub returns-clause-bad_line : goal.returns-clause-bad_line
unfolding digits
returns-clause-bad_line c = refl

pub returns-clause-accepted : goal.returns-clause-accepted
unfolding digits
returns-clause-accepted c = refl

pub returns-clause-first : goal.returns-clause-first
unfolding digits
returns-clause-first c = refl

pub returns-clause-unknown : goal.returns-clause-unknown
unfolding digits
returns-clause-unknown c = refl

pub returns-clause-password : goal.returns-clause-password
unfolding digits
returns-clause-password c = refl

pub returns-clause-throttled : goal.returns-clause-throttled
unfolding digits
returns-clause-throttled c = refl

pub returns-clause-invalid : goal.returns-clause-invalid
unfolding digits
returns-clause-invalid c = refl

pub returns-clause-clock : goal.returns-clause-clock
unfolding digits
returns-clause-clock c = refl

pub returns-clause-exhausted : goal.returns-clause-exhausted
unfolding digits
returns-clause-exhausted c = refl

pub returns-clause-spent : goal.returns-clause-spent
unfolding digits
returns-clause-spent c = refl

pub returns-clause-timeout : goal.returns-clause-timeout
unfolding digits
returns-clause-timeout c = refl

pub returns-clause-busy : goal.returns-clause-busy
unfolding digits
returns-clause-busy c = refl
