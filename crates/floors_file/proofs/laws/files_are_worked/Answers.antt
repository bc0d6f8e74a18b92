-- Each case is computed.
use Rattle.std.proofs.Common.{refl}
use Rattle.std.specs.Fmt.{digits}
use Rattle.floors_file.specs.Writing.{head_text, row_text}
use Rattle.floors_file.proofs.laws.files_are_worked.Goals as goal

pub returns-clause-numbers : goal.returns-clause-numbers
returns-clause-numbers c = refl

pub returns-clause-great_numbers : goal.returns-clause-great_numbers
returns-clause-great_numbers c = refl

pub returns-clause-two : goal.returns-clause-two
returns-clause-two c = refl

pub returns-clause-written : goal.returns-clause-written
unfolding digits head_text row_text
returns-clause-written c = refl

pub returns-clause-no_rows : goal.returns-clause-no_rows
returns-clause-no_rows c = refl

pub returns-clause-ends : goal.returns-clause-ends
returns-clause-ends c = refl

pub returns-clause-last_boot : goal.returns-clause-last_boot
returns-clause-last_boot c = refl

pub returns-clause-not_floors : goal.returns-clause-not_floors
returns-clause-not_floors c = refl

pub returns-clause-version : goal.returns-clause-version
returns-clause-version c = refl

pub returns-clause-missing : goal.returns-clause-missing
returns-clause-missing c = refl

pub returns-clause-surplus : goal.returns-clause-surplus
returns-clause-surplus c = refl

pub returns-clause-no_number : goal.returns-clause-no_number
returns-clause-no_number c = refl

pub returns-clause-range : goal.returns-clause-range
returns-clause-range c = refl

pub returns-clause-great : goal.returns-clause-great
returns-clause-great c = refl

pub returns-clause-most_tokens : goal.returns-clause-most_tokens
returns-clause-most_tokens c = refl

pub returns-clause-rows : goal.returns-clause-rows
returns-clause-rows c = refl

pub returns-clause-row_faults : goal.returns-clause-row_faults
returns-clause-row_faults c = refl

pub returns-clause-twice : goal.returns-clause-twice
returns-clause-twice c = refl

pub returns-clause-too_few : goal.returns-clause-too_few
returns-clause-too_few c = refl

pub returns-clause-too_many : goal.returns-clause-too_many
returns-clause-too_many c = refl

pub returns-clause-no_end : goal.returns-clause-no_end
returns-clause-no_end c = refl

pub returns-clause-memory : goal.returns-clause-memory
returns-clause-memory c = refl
