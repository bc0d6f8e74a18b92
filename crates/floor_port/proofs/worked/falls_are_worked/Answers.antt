-- Each case is computed.
use Rattle.std.proofs.Common.{refl}
use Rattle.floor_port.proofs.worked.falls_are_worked.Goals as goal

pub returns-clause-new : goal.returns-clause-new
returns-clause-new c = refl

pub returns-clause-places : goal.returns-clause-places
returns-clause-places c = refl

pub returns-clause-below : goal.returns-clause-below
returns-clause-below c = refl

pub returns-clause-older_boot : goal.returns-clause-older_boot
returns-clause-older_boot c = refl

pub returns-clause-older_boot_changes_nothing : goal.returns-clause-older_boot_changes_nothing
returns-clause-older_boot_changes_nothing c = refl

pub returns-clause-same_boot_lower : goal.returns-clause-same_boot_lower
returns-clause-same_boot_lower c = refl

pub returns-clause-same_boot_keeps_the_greater : goal.returns-clause-same_boot_keeps_the_greater
returns-clause-same_boot_keeps_the_greater c = refl

pub returns-clause-later_boot_lower : goal.returns-clause-later_boot_lower
returns-clause-later_boot_lower c = refl

pub returns-clause-later_boot_fallen : goal.returns-clause-later_boot_fallen
returns-clause-later_boot_fallen c = refl

pub returns-clause-later_boot_higher : goal.returns-clause-later_boot_higher
returns-clause-later_boot_higher c = refl

pub returns-clause-later_boot_kept : goal.returns-clause-later_boot_kept
returns-clause-later_boot_kept c = refl

pub returns-clause-first_told : goal.returns-clause-first_told
returns-clause-first_told c = refl

pub returns-clause-unknown_name : goal.returns-clause-unknown_name
returns-clause-unknown_name c = refl

pub returns-clause-unknown_name_kept : goal.returns-clause-unknown_name_kept
returns-clause-unknown_name_kept c = refl

pub returns-clause-second_row : goal.returns-clause-second_row
returns-clause-second_row c = refl

pub returns-clause-second_row_fallen : goal.returns-clause-second_row_fallen
returns-clause-second_row_fallen c = refl

pub returns-clause-first_of_two : goal.returns-clause-first_of_two
returns-clause-first_of_two c = refl

pub returns-clause-twice_in_one_boot : goal.returns-clause-twice_in_one_boot
returns-clause-twice_in_one_boot c = refl

pub returns-clause-another_member : goal.returns-clause-another_member
returns-clause-another_member c = refl

pub returns-clause-others : goal.returns-clause-others
returns-clause-others c = refl

pub returns-clause-another_fallen : goal.returns-clause-another_fallen
returns-clause-another_fallen c = refl

pub returns-clause-fall : goal.returns-clause-fall
returns-clause-fall c = refl

pub returns-clause-noted : goal.returns-clause-noted
returns-clause-noted c = refl

pub returns-clause-ten : goal.returns-clause-ten
returns-clause-ten c = refl
