-- Each case is computed.
use Rattle.std.proofs.Common.{refl}
use Rattle.floors_file.proofs.named_laws.named_gathered_are_worked.Goals as goal

pub returns-clause-two_of_three : goal.returns-clause-two_of_three
returns-clause-two_of_three c = refl

pub returns-clause-rows : goal.returns-clause-rows
returns-clause-rows c = refl

pub returns-clause-other_order : goal.returns-clause-other_order
returns-clause-other_order c = refl

pub returns-clause-floors : goal.returns-clause-floors
returns-clause-floors c = refl

pub returns-clause-seeds : goal.returns-clause-seeds
returns-clause-seeds c = refl

pub returns-clause-no_files : goal.returns-clause-no_files
returns-clause-no_files c = refl

pub returns-clause-not_lost : goal.returns-clause-not_lost
returns-clause-not_lost c = refl

pub returns-clause-missing : goal.returns-clause-missing
returns-clause-missing c = refl

pub returns-clause-no_file : goal.returns-clause-no_file
returns-clause-no_file c = refl

pub returns-clause-too_many : goal.returns-clause-too_many
returns-clause-too_many c = refl

pub returns-clause-surplus : goal.returns-clause-surplus
returns-clause-surplus c = refl

pub returns-clause-is_lost : goal.returns-clause-is_lost
returns-clause-is_lost c = refl

pub returns-clause-same_node : goal.returns-clause-same_node
returns-clause-same_node c = refl

pub returns-clause-clusters : goal.returns-clause-clusters
returns-clause-clusters c = refl

pub returns-clause-older : goal.returns-clause-older
returns-clause-older c = refl

pub returns-clause-boot : goal.returns-clause-boot
returns-clause-boot c = refl

pub returns-clause-heard_of_the_made : goal.returns-clause-heard_of_the_made
returns-clause-heard_of_the_made c = refl

pub returns-clause-heard_of_another : goal.returns-clause-heard_of_another
returns-clause-heard_of_another c = refl

pub returns-clause-anew : goal.returns-clause-anew
returns-clause-anew c = refl

pub returns-clause-anew_heard : goal.returns-clause-anew_heard
returns-clause-anew_heard c = refl

pub returns-clause-anew_of_two_lives : goal.returns-clause-anew_of_two_lives
returns-clause-anew_of_two_lives c = refl

pub returns-clause-anew_of_one : goal.returns-clause-anew_of_one
returns-clause-anew_of_one c = refl

pub returns-clause-anew_of_none : goal.returns-clause-anew_of_none
returns-clause-anew_of_none c = refl
