use Rattle.std.proofs.Common.{ℕ, Ok, sym}
use Rattle.cluster_file.proofs.AddressLemmas.{parsed, spelled}
use Rattle.cluster_file.proofs.laws.addresses_are_spelled.Goals as goal

pub returns : goal.returns
returns c text address = (spelled text address, λ spells. sym (parsed {E = ℕ} text (Ok address) spells))
