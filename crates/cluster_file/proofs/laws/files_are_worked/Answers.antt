-- Each case is computed.
use Rattle.std.proofs.Common.{refl}
use Rattle.std.specs.Net.Reader.{read_ipv4, read_number, read_octet, read_port, read_socket_v4}
use Rattle.hex.specs.Hex.{decode_pairs}
use Rattle.cluster_file.specs.Address.{address_text, is_same}
use Rattle.cluster_file.proofs.laws.files_are_worked.Goals as goal

pub returns-clause-small : goal.returns-clause-small
unfolding read_socket_v4 read_ipv4 read_port read_octet read_number is_same address_text decode_pairs
returns-clause-small c = refl

pub returns-clause-no_last_end : goal.returns-clause-no_last_end
unfolding read_socket_v4 read_ipv4 read_port read_octet read_number is_same address_text decode_pairs
returns-clause-no_last_end c = refl

pub returns-clause-three : goal.returns-clause-three
unfolding read_socket_v4 read_ipv4 read_port read_octet read_number is_same address_text decode_pairs
returns-clause-three c = refl

pub returns-clause-empty : goal.returns-clause-empty
unfolding read_socket_v4 read_ipv4 read_port read_octet read_number is_same address_text decode_pairs
returns-clause-empty c = refl

pub returns-clause-no_member : goal.returns-clause-no_member
unfolding read_socket_v4 read_ipv4 read_port read_octet read_number is_same address_text decode_pairs
returns-clause-no_member c = refl

pub returns-clause-no_key : goal.returns-clause-no_key
unfolding read_socket_v4 read_ipv4 read_port read_octet read_number is_same address_text decode_pairs
returns-clause-no_key c = refl

pub returns-clause-no_life : goal.returns-clause-no_life
unfolding read_socket_v4 read_ipv4 read_port read_octet read_number is_same address_text decode_pairs
returns-clause-no_life c = refl

pub returns-clause-first_fault : goal.returns-clause-first_fault
unfolding read_socket_v4 read_ipv4 read_port read_octet read_number is_same address_text decode_pairs
returns-clause-first_fault c = refl

pub returns-clause-two_keys : goal.returns-clause-two_keys
unfolding read_socket_v4 read_ipv4 read_port read_octet read_number is_same address_text decode_pairs
returns-clause-two_keys c = refl

pub returns-clause-as_long_as_may_be : goal.returns-clause-as_long_as_may_be
unfolding read_socket_v4 read_ipv4 read_port read_octet read_number is_same address_text decode_pairs
returns-clause-as_long_as_may_be c = refl

pub returns-clause-too_long : goal.returns-clause-too_long
unfolding read_socket_v4 read_ipv4 read_port read_octet read_number is_same address_text decode_pairs
returns-clause-too_long c = refl

pub returns-clause-faults : goal.returns-clause-faults
unfolding read_socket_v4 read_ipv4 read_port read_octet read_number is_same address_text decode_pairs
returns-clause-faults c = refl

pub returns-clause-named : goal.returns-clause-named
unfolding read_socket_v4 read_ipv4 read_port read_octet read_number is_same address_text decode_pairs
returns-clause-named c = refl

pub returns-clause-names_alone : goal.returns-clause-names_alone
unfolding read_socket_v4 read_ipv4 read_port read_octet read_number is_same address_text decode_pairs
returns-clause-names_alone c = refl

pub returns-clause-no_names : goal.returns-clause-no_names
unfolding read_socket_v4 read_ipv4 read_port read_octet read_number is_same address_text decode_pairs
returns-clause-no_names c = refl

pub returns-clause-no_life_before_no_names : goal.returns-clause-no_life_before_no_names
unfolding read_socket_v4 read_ipv4 read_port read_octet read_number is_same address_text decode_pairs
returns-clause-no_life_before_no_names c = refl

pub returns-clause-bad_names : goal.returns-clause-bad_names
unfolding read_socket_v4 read_ipv4 read_port read_octet read_number is_same address_text decode_pairs
returns-clause-bad_names c = refl
