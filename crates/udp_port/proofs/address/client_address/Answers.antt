use Rattle.std.proofs.Common.{◌/◌, ◌%◌, arith}
use Rattle.udp_port.proofs.AddressLemmas.{number_back}
use Rattle.udp_port.proofs.address.client_address.Goals as goal

pub returns-clause-some : goal.returns-clause-some
returns-clause-some c =
    let n = c.args.number in
    number_back c.new.result c.from_bits-ip.result (n / 65536) (n % 65536) n c.new.ensures.ip c.new.ensures.port
    c.from_bits-ip.ensures (omega (arith, c.if-number-ge-CLIENTS_END.false)) (omega arith)
