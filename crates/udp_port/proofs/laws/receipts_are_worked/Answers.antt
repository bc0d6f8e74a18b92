-- Each address has its number.
use Rattle.std.proofs.Common.{refl}
use Rattle.std.specs.Net.Addr.{ipv4_bits}
use Rattle.udp_port.proofs.laws.receipts_are_worked.Goals as goal

pub returns-clause-line : goal.returns-clause-line
unfolding ipv4_bits
returns-clause-line c = refl

pub returns-clause-left : goal.returns-clause-left
unfolding ipv4_bits
returns-clause-left c = refl

pub returns-clause-heard : goal.returns-clause-heard
unfolding ipv4_bits
returns-clause-heard c = refl

pub returns-clause-own_host : goal.returns-clause-own_host
unfolding ipv4_bits
returns-clause-own_host c = refl

pub returns-clause-another_host : goal.returns-clause-another_host
unfolding ipv4_bits
returns-clause-another_host c = refl

pub returns-clause-any_host : goal.returns-clause-any_host
unfolding ipv4_bits
returns-clause-any_host c = refl
