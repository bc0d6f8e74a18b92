use Rattle.std.proofs.Common.{ap, ◌∙◌}
use Rattle.std.specs.Prelude.{option_map}
use Rattle.std.specs.Net.Addr.{ipv4_octets}
use Rattle.clients_file.proofs.AddressLemmas.{parsed}
use Rattle.clients_file.proofs.address.read_ip.Goals as goal

pub returns : goal.returns
returns c = ap (option_map ipv4_octets) c.ok.ensures.value ∙ parsed c.args.text.now c.parse_ascii.result c.parse_ascii.ensures
