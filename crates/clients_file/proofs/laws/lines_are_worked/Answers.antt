-- Each case is computed.
use Rattle.std.proofs.Common.{refl}
use Rattle.std.specs.Net.Reader.{read_ipv4, read_number, read_octet}
use Rattle.hex.specs.Hex.{decode_pairs}
use Rattle.clients_file.proofs.laws.lines_are_worked.Goals as goal

pub returns-clause-passed_over : goal.returns-clause-passed_over
unfolding read_ipv4 read_octet read_number decode_pairs
returns-clause-passed_over c = refl

pub returns-clause-clients : goal.returns-clause-clients
unfolding read_ipv4 read_octet read_number decode_pairs
returns-clause-clients c = refl

pub returns-clause-numbers : goal.returns-clause-numbers
unfolding read_ipv4 read_octet read_number decode_pairs
returns-clause-numbers c = refl

pub returns-clause-bad_numbers : goal.returns-clause-bad_numbers
unfolding read_ipv4 read_octet read_number decode_pairs
returns-clause-bad_numbers c = refl

pub returns-clause-twice_number : goal.returns-clause-twice_number
unfolding read_ipv4 read_octet read_number decode_pairs
returns-clause-twice_number c = refl

pub returns-clause-bad_keys : goal.returns-clause-bad_keys
unfolding read_ipv4 read_octet read_number decode_pairs
returns-clause-bad_keys c = refl

pub returns-clause-same_key : goal.returns-clause-same_key
unfolding read_ipv4 read_octet read_number decode_pairs
returns-clause-same_key c = refl

pub returns-clause-last_client : goal.returns-clause-last_client
unfolding read_ipv4 read_octet read_number decode_pairs
returns-clause-last_client c = refl

pub returns-clause-too_many_clients : goal.returns-clause-too_many_clients
unfolding read_ipv4 read_octet read_number decode_pairs
returns-clause-too_many_clients c = refl

pub returns-clause-plain : goal.returns-clause-plain
unfolding read_ipv4 read_octet read_number decode_pairs
returns-clause-plain c = refl

pub returns-clause-bad_addresses : goal.returns-clause-bad_addresses
unfolding read_ipv4 read_octet read_number decode_pairs
returns-clause-bad_addresses c = refl

pub returns-clause-last_plain : goal.returns-clause-last_plain
unfolding read_ipv4 read_octet read_number decode_pairs
returns-clause-last_plain c = refl

pub returns-clause-too_many_plain : goal.returns-clause-too_many_plain
unfolding read_ipv4 read_octet read_number decode_pairs
returns-clause-too_many_plain c = refl

pub returns-clause-ahead : goal.returns-clause-ahead
unfolding read_ipv4 read_octet read_number decode_pairs
returns-clause-ahead c = refl

pub returns-clause-bad_ahead : goal.returns-clause-bad_ahead
unfolding read_ipv4 read_octet read_number decode_pairs
returns-clause-bad_ahead c = refl

pub returns-clause-twice_ahead : goal.returns-clause-twice_ahead
unfolding read_ipv4 read_octet read_number decode_pairs
returns-clause-twice_ahead c = refl

pub returns-clause-unknown : goal.returns-clause-unknown
unfolding read_ipv4 read_octet read_number decode_pairs
returns-clause-unknown c = refl

pub returns-clause-missing : goal.returns-clause-missing
unfolding read_ipv4 read_octet read_number decode_pairs
returns-clause-missing c = refl

pub returns-clause-surplus : goal.returns-clause-surplus
unfolding read_ipv4 read_octet read_number decode_pairs
returns-clause-surplus c = refl

pub returns-clause-failures : goal.returns-clause-failures
unfolding read_ipv4 read_octet read_number decode_pairs
returns-clause-failures c = refl

pub returns-clause-bad_failures : goal.returns-clause-bad_failures
unfolding read_ipv4 read_octet read_number decode_pairs
returns-clause-bad_failures c = refl

pub returns-clause-twice_failures : goal.returns-clause-twice_failures
unfolding read_ipv4 read_octet read_number decode_pairs
returns-clause-twice_failures c = refl

pub returns-clause-operator : goal.returns-clause-operator
unfolding read_ipv4 read_octet read_number decode_pairs
returns-clause-operator c = refl

pub returns-clause-reader : goal.returns-clause-reader
unfolding read_ipv4 read_octet read_number decode_pairs
returns-clause-reader c = refl

pub returns-clause-client_after_operators : goal.returns-clause-client_after_operators
unfolding read_ipv4 read_octet read_number decode_pairs
returns-clause-client_after_operators c = refl

pub returns-clause-numbers_of_operators : goal.returns-clause-numbers_of_operators
unfolding read_ipv4 read_octet read_number decode_pairs
returns-clause-numbers_of_operators c = refl

pub returns-clause-keys_of_operators : goal.returns-clause-keys_of_operators
unfolding read_ipv4 read_octet read_number decode_pairs
returns-clause-keys_of_operators c = refl

pub returns-clause-last_operator : goal.returns-clause-last_operator
unfolding read_ipv4 read_octet read_number decode_pairs
returns-clause-last_operator c = refl

pub returns-clause-too_many_operators : goal.returns-clause-too_many_operators
unfolding read_ipv4 read_octet read_number decode_pairs
returns-clause-too_many_operators c = refl

pub returns-clause-bad_operators : goal.returns-clause-bad_operators
unfolding read_ipv4 read_octet read_number decode_pairs
returns-clause-bad_operators c = refl
