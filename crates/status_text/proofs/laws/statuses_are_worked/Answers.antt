-- Each case is computed.
use Rattle.std.proofs.Common.{refl}
use Rattle.std.specs.Fmt.{digits}
use Rattle.status_text.proofs.laws.statuses_are_worked.Goals as goal

pub returns-clause-least : goal.returns-clause-least
unfolding digits
returns-clause-least c = refl

pub returns-clause-book : goal.returns-clause-book
unfolding digits
returns-clause-book c = refl

pub returns-clause-rows : goal.returns-clause-rows
unfolding digits
returns-clause-rows c = refl

pub returns-clause-refused : goal.returns-clause-refused
unfolding digits
returns-clause-refused c = refl

pub returns-clause-commits : goal.returns-clause-commits
unfolding digits
returns-clause-commits c = refl

pub returns-clause-unopened : goal.returns-clause-unopened
unfolding digits
returns-clause-unopened c = refl

pub returns-clause-others : goal.returns-clause-others
unfolding digits
returns-clause-others c = refl

pub returns-clause-most : goal.returns-clause-most
unfolding digits
returns-clause-most c = refl
