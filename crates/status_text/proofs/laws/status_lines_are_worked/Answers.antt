-- Each case is computed.
use Rattle.std.proofs.Common.{refl}
use Rattle.std.specs.Fmt.{digits}
use Rattle.status_text.proofs.laws.status_lines_are_worked.Goals as goal

pub returns-clause-node : goal.returns-clause-node
unfolding digits
returns-clause-node c = refl

pub returns-clause-version : goal.returns-clause-version
unfolding digits
returns-clause-version c = refl

pub returns-clause-fingerprint : goal.returns-clause-fingerprint
unfolding digits
returns-clause-fingerprint c = refl

pub returns-clause-book : goal.returns-clause-book
unfolding digits
returns-clause-book c = refl

pub returns-clause-rows : goal.returns-clause-rows
unfolding digits
returns-clause-rows c = refl

pub returns-clause-times : goal.returns-clause-times
unfolding digits
returns-clause-times c = refl

pub returns-clause-tokens : goal.returns-clause-tokens
unfolding digits
returns-clause-tokens c = refl

pub returns-clause-datagrams : goal.returns-clause-datagrams
unfolding digits
returns-clause-datagrams c = refl

pub returns-clause-refusals : goal.returns-clause-refusals
unfolding digits
returns-clause-refusals c = refl

pub returns-clause-batches : goal.returns-clause-batches
unfolding digits
returns-clause-batches c = refl

pub returns-clause-commits : goal.returns-clause-commits
unfolding digits
returns-clause-commits c = refl

pub returns-clause-causes : goal.returns-clause-causes
unfolding digits
returns-clause-causes c = refl

pub returns-clause-members : goal.returns-clause-members
unfolding digits
returns-clause-members c = refl
