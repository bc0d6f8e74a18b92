-- Each case is computed.
use Rattle.std.proofs.Common.{refl}
use Rattle.std.specs.Net.Reader.{read_ipv4, read_number, read_octet, read_port, read_socket_v4}
use Rattle.hex.specs.Hex.{decode_pairs}
use Rattle.cluster_file.specs.Address.{address_text, is_same}
use Rattle.cluster_file.proofs.laws.lines_are_worked.Goals as goal

pub returns-clause-passed_over : goal.returns-clause-passed_over
unfolding read_socket_v4 read_ipv4 read_port read_octet read_number is_same address_text decode_pairs
returns-clause-passed_over c = refl

pub returns-clause-members : goal.returns-clause-members
unfolding read_socket_v4 read_ipv4 read_port read_octet read_number is_same address_text decode_pairs
returns-clause-members c = refl

pub returns-clause-last_member : goal.returns-clause-last_member
unfolding read_socket_v4 read_ipv4 read_port read_octet read_number is_same address_text decode_pairs
returns-clause-last_member c = refl

pub returns-clause-too_many : goal.returns-clause-too_many
unfolding read_socket_v4 read_ipv4 read_port read_octet read_number is_same address_text decode_pairs
returns-clause-too_many c = refl

pub returns-clause-member_numbers : goal.returns-clause-member_numbers
unfolding read_socket_v4 read_ipv4 read_port read_octet read_number is_same address_text decode_pairs
returns-clause-member_numbers c = refl

pub returns-clause-bad_addresses : goal.returns-clause-bad_addresses
unfolding read_socket_v4 read_ipv4 read_port read_octet read_number is_same address_text decode_pairs
returns-clause-bad_addresses c = refl

pub returns-clause-twice_address : goal.returns-clause-twice_address
unfolding read_socket_v4 read_ipv4 read_port read_octet read_number is_same address_text decode_pairs
returns-clause-twice_address c = refl

pub returns-clause-settings : goal.returns-clause-settings
unfolding read_socket_v4 read_ipv4 read_port read_octet read_number is_same address_text decode_pairs
returns-clause-settings c = refl

pub returns-clause-bad_numbers : goal.returns-clause-bad_numbers
unfolding read_socket_v4 read_ipv4 read_port read_octet read_number is_same address_text decode_pairs
returns-clause-bad_numbers c = refl

pub returns-clause-key_and_life : goal.returns-clause-key_and_life
unfolding read_socket_v4 read_ipv4 read_port read_octet read_number is_same address_text decode_pairs
returns-clause-key_and_life c = refl

pub returns-clause-bad_key_and_life : goal.returns-clause-bad_key_and_life
unfolding read_socket_v4 read_ipv4 read_port read_octet read_number is_same address_text decode_pairs
returns-clause-bad_key_and_life c = refl

pub returns-clause-twice : goal.returns-clause-twice
unfolding read_socket_v4 read_ipv4 read_port read_octet read_number is_same address_text decode_pairs
returns-clause-twice c = refl

pub returns-clause-unknown : goal.returns-clause-unknown
unfolding read_socket_v4 read_ipv4 read_port read_octet read_number is_same address_text decode_pairs
returns-clause-unknown c = refl

pub returns-clause-missing : goal.returns-clause-missing
unfolding read_socket_v4 read_ipv4 read_port read_octet read_number is_same address_text decode_pairs
returns-clause-missing c = refl

pub returns-clause-surplus : goal.returns-clause-surplus
unfolding read_socket_v4 read_ipv4 read_port read_octet read_number is_same address_text decode_pairs
returns-clause-surplus c = refl

pub returns-clause-names_and_new_tokens : goal.returns-clause-names_and_new_tokens
unfolding read_socket_v4 read_ipv4 read_port read_octet read_number is_same address_text decode_pairs
returns-clause-names_and_new_tokens c = refl

pub returns-clause-bad_names_and_new_tokens : goal.returns-clause-bad_names_and_new_tokens
unfolding read_socket_v4 read_ipv4 read_port read_octet read_number is_same address_text decode_pairs
returns-clause-bad_names_and_new_tokens c = refl
