-- The address has its number.
use Rattle.std.proofs.Common.{refl}
use Rattle.std.specs.Net.Addr.{ipv4_bits}
use Rattle.udp_port.proofs.laws.calls_are_worked.Goals as goal

pub returns-clause-settings : goal.returns-clause-settings
unfolding ipv4_bits
returns-clause-settings c = refl
