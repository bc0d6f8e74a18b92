use Rattle.bundle_port.proofs.FormatLemmas.{read_parts}
use Rattle.bundle_port.proofs.laws.parts_are_read_back.Goals as goal

pub returns : goal.returns
returns c = read_parts
