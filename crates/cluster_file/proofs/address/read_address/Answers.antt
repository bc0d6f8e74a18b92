use Rattle.std.proofs.Common.{ap, ◌∙◌}
use Rattle.std.specs.Prelude.{option_map}
use Rattle.cluster_file.specs.Address.{address_value}
use Rattle.cluster_file.proofs.AddressLemmas.{parsed}
use Rattle.cluster_file.proofs.address.read_address.Goals as goal

pub returns : goal.returns
returns c = ap (option_map address_value) c.ok.ensures.value ∙ parsed c.args.text.now c.parse_ascii.result c.parse_ascii.ensures
