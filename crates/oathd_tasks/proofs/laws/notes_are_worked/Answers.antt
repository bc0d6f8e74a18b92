use Rattle.std.proofs.Common.{refl}
use Rattle.std.specs.Fmt.{digits}
use Rattle.oathd_tasks.specs.Notes.{case_text, empty_text, found_text, head, members_text, row_text, shared_text}
use Rattle.oathd_tasks.proofs.laws.notes_are_worked.Goals as goal

pub returns-clause-forms : goal.returns-clause-forms
unfolding found_text case_text row_text empty_text members_text head digits
returns-clause-forms c = refl

pub returns-clause-tally : goal.returns-clause-tally
unfolding found_text case_text row_text empty_text members_text head digits
returns-clause-tally c = refl

pub returns-clause-rows : goal.returns-clause-rows
unfolding found_text case_text row_text empty_text members_text head digits
returns-clause-rows c = refl

pub returns-clause-another_case : goal.returns-clause-another_case
unfolding found_text case_text row_text empty_text members_text head digits
returns-clause-another_case c = refl

pub returns-clause-members : goal.returns-clause-members
unfolding found_text case_text row_text empty_text members_text head digits
returns-clause-members c = refl

pub returns-clause-shared : goal.returns-clause-shared
unfolding found_text case_text row_text empty_text members_text shared_text head digits
returns-clause-shared c = refl
