use Rattle.std.proofs.Common.{sym, ◌∙◌}
use Rattle.cluster_file.specs.Address.{address_value, is_same}
use Rattle.cluster_file.proofs.AddressLemmas.{any_of_map}
use Rattle.cluster_file.proofs.address.is_among.Goals as goal

pub returns : goal.returns
returns c = c.has_same.ensures ∙ sym (any_of_map (is_same (address_value c.args.address)) address_value c.args.others.now)
