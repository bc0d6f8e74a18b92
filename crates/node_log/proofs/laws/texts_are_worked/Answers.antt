-- Each case is computed.
use Rattle.std.proofs.Common.{refl}
use Rattle.std.specs.Fmt.{digits}
use Rattle.hex.specs.Hex.{encode_with}
use Rattle.node_log.specs.Text.{address_text, answered_line, at_text, client_text, counts_text, end_line, place_text, print_text, book_text, roster_line, rows_text, shown_byte, shown_user, start_line}
use Rattle.node_log.proofs.laws.texts_are_worked.Goals as goal

pub returns-clause-accepted : goal.returns-clause-accepted
unfolding digits encode_with answered_line address_text client_text shown_byte shown_user
returns-clause-accepted c = refl

pub returns-clause-refused : goal.returns-clause-refused
unfolding digits encode_with answered_line address_text client_text shown_byte shown_user
returns-clause-refused c = refl

pub returns-clause-address : goal.returns-clause-address
unfolding digits encode_with answered_line address_text client_text shown_byte shown_user
returns-clause-address c = refl

pub returns-clause-sealed : goal.returns-clause-sealed
unfolding digits encode_with answered_line address_text client_text shown_byte shown_user
returns-clause-sealed c = refl

pub returns-clause-clients : goal.returns-clause-clients
unfolding digits encode_with answered_line address_text client_text shown_byte shown_user
returns-clause-clients c = refl

pub returns-clause-name : goal.returns-clause-name
unfolding digits encode_with answered_line address_text client_text shown_byte shown_user
returns-clause-name c = refl

pub returns-clause-nobody : goal.returns-clause-nobody
unfolding digits encode_with answered_line address_text client_text shown_byte shown_user
returns-clause-nobody c = refl

pub returns-clause-start : goal.returns-clause-start
unfolding digits start_line end_line place_text at_text counts_text print_text address_text
returns-clause-start c = refl

pub returns-clause-roster : goal.returns-clause-roster
unfolding digits roster_line rows_text book_text
returns-clause-roster c = refl

pub returns-clause-end : goal.returns-clause-end
unfolding digits start_line end_line place_text at_text counts_text print_text address_text
returns-clause-end c = refl
