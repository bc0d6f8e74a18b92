-- Each case is computed.
use Rattle.std.proofs.Common.{refl}
use Rattle.std.specs.Net.Reader.{read_ipv4, read_number, read_octet}
use Rattle.hex.specs.Hex.{decode_pairs}
use Rattle.clients_file.proofs.laws.fields_are_worked.Goals as goal

pub returns-clause-words : goal.returns-clause-words
unfolding read_ipv4 read_octet read_number decode_pairs
returns-clause-words c = refl

pub returns-clause-no_words : goal.returns-clause-no_words
unfolding read_ipv4 read_octet read_number decode_pairs
returns-clause-no_words c = refl

pub returns-clause-numbers : goal.returns-clause-numbers
unfolding read_ipv4 read_octet read_number decode_pairs
returns-clause-numbers c = refl

pub returns-clause-addresses : goal.returns-clause-addresses
unfolding read_ipv4 read_octet read_number decode_pairs
returns-clause-addresses c = refl

pub returns-clause-no_addresses : goal.returns-clause-no_addresses
unfolding read_ipv4 read_octet read_number decode_pairs
returns-clause-no_addresses c = refl

pub returns-clause-loopback : goal.returns-clause-loopback
unfolding read_ipv4 read_octet read_number decode_pairs
returns-clause-loopback c = refl

pub returns-clause-keys : goal.returns-clause-keys
unfolding read_ipv4 read_octet read_number decode_pairs
returns-clause-keys c = refl

pub returns-clause-blocks : goal.returns-clause-blocks
unfolding read_ipv4 read_octet read_number decode_pairs
returns-clause-blocks c = refl

pub returns-clause-used : goal.returns-clause-used
unfolding read_ipv4 read_octet read_number decode_pairs
returns-clause-used c = refl

pub returns-clause-words_of_operators : goal.returns-clause-words_of_operators
unfolding read_ipv4 read_octet read_number decode_pairs
returns-clause-words_of_operators c = refl

pub returns-clause-used_by_operators : goal.returns-clause-used_by_operators
unfolding read_ipv4 read_octet read_number decode_pairs
returns-clause-used_by_operators c = refl

pub returns-clause-blocks_of_operators : goal.returns-clause-blocks_of_operators
unfolding read_ipv4 read_octet read_number decode_pairs
returns-clause-blocks_of_operators c = refl
