-- Each case is computed.
use Rattle.std.proofs.Common.{refl}
use Rattle.floors_file.proofs.laws.gathered_are_worked.Goals as goal

pub returns-clause-two_of_three : goal.returns-clause-two_of_three
returns-clause-two_of_three c = refl

pub returns-clause-floors : goal.returns-clause-floors
returns-clause-floors c = refl

pub returns-clause-own_floors : goal.returns-clause-own_floors
returns-clause-own_floors c = refl

pub returns-clause-none : goal.returns-clause-none
returns-clause-none c = refl

pub returns-clause-not_lost : goal.returns-clause-not_lost
returns-clause-not_lost c = refl

pub returns-clause-missing : goal.returns-clause-missing
returns-clause-missing c = refl

pub returns-clause-no_file : goal.returns-clause-no_file
returns-clause-no_file c = refl

pub returns-clause-too_many : goal.returns-clause-too_many
returns-clause-too_many c = refl

pub returns-clause-one_of_two : goal.returns-clause-one_of_two
returns-clause-one_of_two c = refl

pub returns-clause-surplus : goal.returns-clause-surplus
returns-clause-surplus c = refl

pub returns-clause-no_member : goal.returns-clause-no_member
returns-clause-no_member c = refl

pub returns-clause-is_lost : goal.returns-clause-is_lost
returns-clause-is_lost c = refl

pub returns-clause-same_node : goal.returns-clause-same_node
returns-clause-same_node c = refl

pub returns-clause-members : goal.returns-clause-members
returns-clause-members c = refl

pub returns-clause-older : goal.returns-clause-older
returns-clause-older c = refl

pub returns-clause-boot : goal.returns-clause-boot
returns-clause-boot c = refl

pub returns-clause-no_floor : goal.returns-clause-no_floor
returns-clause-no_floor c = refl

pub returns-clause-no_user : goal.returns-clause-no_user
returns-clause-no_user c = refl

pub returns-clause-anew : goal.returns-clause-anew
returns-clause-anew c = refl

pub returns-clause-anew_with_rows : goal.returns-clause-anew_with_rows
returns-clause-anew_with_rows c = refl

pub returns-clause-anew_in_one : goal.returns-clause-anew_in_one
returns-clause-anew_in_one c = refl

pub returns-clause-anew_of_one : goal.returns-clause-anew_of_one
returns-clause-anew_of_one c = refl

pub returns-clause-anew_of_none : goal.returns-clause-anew_of_none
returns-clause-anew_of_none c = refl

pub returns-clause-enough : goal.returns-clause-enough
returns-clause-enough c = refl
