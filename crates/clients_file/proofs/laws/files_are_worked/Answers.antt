-- Each case is computed.
use Rattle.std.proofs.Common.{refl}
use Rattle.std.specs.Net.Reader.{read_ipv4, read_number, read_octet}
use Rattle.hex.specs.Hex.{decode_pairs}
use Rattle.clients_file.proofs.laws.files_are_worked.Goals as goal

pub returns-clause-small : goal.returns-clause-small
unfolding read_ipv4 read_octet read_number decode_pairs
returns-clause-small c = refl

pub returns-clause-whole : goal.returns-clause-whole
unfolding read_ipv4 read_octet read_number decode_pairs
returns-clause-whole c = refl

pub returns-clause-no_last_end : goal.returns-clause-no_last_end
unfolding read_ipv4 read_octet read_number decode_pairs
returns-clause-no_last_end c = refl

pub returns-clause-no_client : goal.returns-clause-no_client
unfolding read_ipv4 read_octet read_number decode_pairs
returns-clause-no_client c = refl

pub returns-clause-first_fault : goal.returns-clause-first_fault
unfolding read_ipv4 read_octet read_number decode_pairs
returns-clause-first_fault c = refl

pub returns-clause-fault_before_the_end : goal.returns-clause-fault_before_the_end
unfolding read_ipv4 read_octet read_number decode_pairs
returns-clause-fault_before_the_end c = refl

pub returns-clause-as_long_as_may_be : goal.returns-clause-as_long_as_may_be
unfolding read_ipv4 read_octet read_number decode_pairs
returns-clause-as_long_as_may_be c = refl

pub returns-clause-too_long : goal.returns-clause-too_long
unfolding read_ipv4 read_octet read_number decode_pairs
returns-clause-too_long c = refl

pub returns-clause-faults : goal.returns-clause-faults
unfolding read_ipv4 read_octet read_number decode_pairs
returns-clause-faults c = refl

pub returns-clause-with_operators : goal.returns-clause-with_operators
unfolding read_ipv4 read_octet read_number decode_pairs
returns-clause-with_operators c = refl

pub returns-clause-operators_alone : goal.returns-clause-operators_alone
unfolding read_ipv4 read_octet read_number decode_pairs
returns-clause-operators_alone c = refl
