-- Each number is computed.
use Rattle.std.proofs.Common.{refl}
use Rattle.std.specs.Net.Addr.{ipv4_bits}
use Rattle.udp_port.proofs.laws.addresses_are_worked.Goals as goal

pub returns-clause-number : goal.returns-clause-number
unfolding ipv4_bits
returns-clause-number c = refl

pub returns-clause-other_port : goal.returns-clause-other_port
unfolding ipv4_bits
returns-clause-other_port c = refl

pub returns-clause-other_host : goal.returns-clause-other_host
unfolding ipv4_bits
returns-clause-other_host c = refl
