use Rattle.std.proofs.Common.{Ok, sym, ap, ◌∙◌}
use Rattle.std.specs.Prelude.{option_map}
use Rattle.std.specs.Net.Addr.{ipv4_bits, ipv4_octets}
use Rattle.clients_file.specs.Address.{octets_of}
use Rattle.clients_file.proofs.AddressLemmas.{is_taken}
use Rattle.clients_file.proofs.address.read_loopback.Goals as goal

pub returns : goal.returns
unfolding ipv4_bits
returns c =
    ap Ok c.to_bits.ensures
    ∙ is_taken (ipv4_octets c.in-Some.ip) (octets_of c.args.text.now)
    (ap (option_map ipv4_octets) (sym c.in-Some.is) ∙ c.read_ip.ensures) (sym c.is_loopback.ensures ∙ c.if-not-is_loopback.false)
