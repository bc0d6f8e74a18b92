-- The number of an address is computed.
use Rattle.std.proofs.Common.{refl}
use Rattle.std.specs.Net.Addr.{ipv4_bits}
use Rattle.udp_port.proofs.laws.addresses_can_be_broken.Goals as goal

pub returns-clause-client : goal.returns-clause-client
unfolding ipv4_bits
returns-clause-client c = refl
