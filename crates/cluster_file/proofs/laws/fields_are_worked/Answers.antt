-- Each case is computed.
use Rattle.std.proofs.Common.{refl}
use Rattle.std.specs.Net.Reader.{read_ipv4, read_number, read_octet, read_port, read_socket_v4}
use Rattle.std.specs.Fmt.{digits}
use Rattle.hex.specs.Hex.{decode_pairs}
use Rattle.cluster_file.specs.Address.{address_text, is_same}
use Rattle.cluster_file.proofs.laws.fields_are_worked.Goals as goal

pub returns-clause-words : goal.returns-clause-words
unfolding read_socket_v4 read_ipv4 read_port read_octet read_number is_same address_text decode_pairs
returns-clause-words c = refl

pub returns-clause-no_words : goal.returns-clause-no_words
unfolding read_socket_v4 read_ipv4 read_port read_octet read_number is_same address_text decode_pairs
returns-clause-no_words c = refl

pub returns-clause-addresses : goal.returns-clause-addresses
unfolding read_socket_v4 read_ipv4 read_port read_octet read_number is_same address_text decode_pairs
returns-clause-addresses c = refl

pub returns-clause-no_addresses : goal.returns-clause-no_addresses
unfolding read_socket_v4 read_ipv4 read_port read_octet read_number is_same address_text decode_pairs
returns-clause-no_addresses c = refl

pub returns-clause-address : goal.returns-clause-address
unfolding digits read_socket_v4 read_ipv4 read_port read_octet read_number is_same address_text decode_pairs
returns-clause-address c = refl

pub returns-clause-among : goal.returns-clause-among
unfolding read_socket_v4 read_ipv4 read_port read_octet read_number is_same address_text decode_pairs
returns-clause-among c = refl

pub returns-clause-keys : goal.returns-clause-keys
unfolding read_socket_v4 read_ipv4 read_port read_octet read_number is_same address_text decode_pairs
returns-clause-keys c = refl

pub returns-clause-lives : goal.returns-clause-lives
unfolding read_socket_v4 read_ipv4 read_port read_octet read_number is_same address_text decode_pairs
returns-clause-lives c = refl

pub returns-clause-no_new_words : goal.returns-clause-no_new_words
unfolding read_socket_v4 read_ipv4 read_port read_octet read_number is_same address_text decode_pairs
returns-clause-no_new_words c = refl

pub returns-clause-salts : goal.returns-clause-salts
unfolding read_socket_v4 read_ipv4 read_port read_octet read_number is_same address_text decode_pairs
returns-clause-salts c = refl

pub returns-clause-fresh : goal.returns-clause-fresh
unfolding read_socket_v4 read_ipv4 read_port read_octet read_number is_same address_text decode_pairs
returns-clause-fresh c = refl
