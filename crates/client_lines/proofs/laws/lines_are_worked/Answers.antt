-- Each case is computed.
use Rattle.std.proofs.Common.{refl}
use Rattle.client_lines.proofs.laws.lines_are_worked.Goals as goal

pub returns-clause-check : goal.returns-clause-check
returns-clause-check c = refl

pub returns-clause-password : goal.returns-clause-password
returns-clause-password c = refl

pub returns-clause-plus : goal.returns-clause-plus
returns-clause-plus c = refl

pub returns-clause-two_marks : goal.returns-clause-two_marks
returns-clause-two_marks c = refl

pub returns-clause-resync : goal.returns-clause-resync
returns-clause-resync c = refl

pub returns-clause-submissions : goal.returns-clause-submissions
returns-clause-submissions c = refl

pub returns-clause-lf : goal.returns-clause-lf
returns-clause-lf c = refl

pub returns-clause-two_lfs : goal.returns-clause-two_lfs
returns-clause-two_lfs c = refl

pub returns-clause-cr_lf : goal.returns-clause-cr_lf
returns-clause-cr_lf c = refl

pub returns-clause-empty : goal.returns-clause-empty
returns-clause-empty c = refl

pub returns-clause-space_before : goal.returns-clause-space_before
returns-clause-space_before c = refl

pub returns-clause-space_behind : goal.returns-clause-space_behind
returns-clause-space_behind c = refl

pub returns-clause-two_spaces : goal.returns-clause-two_spaces
returns-clause-two_spaces c = refl

pub returns-clause-tab : goal.returns-clause-tab
returns-clause-tab c = refl

pub returns-clause-lower_case : goal.returns-clause-lower_case
returns-clause-lower_case c = refl

pub returns-clause-other_word : goal.returns-clause-other_word
returns-clause-other_word c = refl

pub returns-clause-few : goal.returns-clause-few
returns-clause-few c = refl

pub returns-clause-check_of_two : goal.returns-clause-check_of_two
returns-clause-check_of_two c = refl

pub returns-clause-resync_of_one : goal.returns-clause-resync_of_one
returns-clause-resync_of_one c = refl

pub returns-clause-many : goal.returns-clause-many
returns-clause-many c = refl

pub returns-clause-longest : goal.returns-clause-longest
returns-clause-longest c = refl

pub returns-clause-nonce : goal.returns-clause-nonce
returns-clause-nonce c = refl

pub returns-clause-user : goal.returns-clause-user
returns-clause-user c = refl

pub returns-clause-password_length : goal.returns-clause-password_length
returns-clause-password_length c = refl

pub returns-clause-code_of_5 : goal.returns-clause-code_of_5
returns-clause-code_of_5 c = refl

pub returns-clause-code_of_9 : goal.returns-clause-code_of_9
returns-clause-code_of_9 c = refl

pub returns-clause-letter_in_code : goal.returns-clause-letter_in_code
returns-clause-letter_in_code c = refl

pub returns-clause-first_code : goal.returns-clause-first_code
returns-clause-first_code c = refl

pub returns-clause-second_code : goal.returns-clause-second_code
returns-clause-second_code c = refl

pub returns-clause-underscore : goal.returns-clause-underscore
returns-clause-underscore c = refl

pub returns-clause-form_feed : goal.returns-clause-form_feed
returns-clause-form_feed c = refl

pub returns-clause-tab_in_user : goal.returns-clause-tab_in_user
returns-clause-tab_in_user c = refl

pub returns-clause-empty_nonce : goal.returns-clause-empty_nonce
returns-clause-empty_nonce c = refl

pub returns-clause-empty_user : goal.returns-clause-empty_user
returns-clause-empty_user c = refl

pub returns-clause-empty_password : goal.returns-clause-empty_password
returns-clause-empty_password c = refl

pub returns-clause-resync_nonce : goal.returns-clause-resync_nonce
returns-clause-resync_nonce c = refl

pub returns-clause-resync_user : goal.returns-clause-resync_user
returns-clause-resync_user c = refl

pub returns-clause-resync_password : goal.returns-clause-resync_password
returns-clause-resync_password c = refl
