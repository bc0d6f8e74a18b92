use Rattle.bundle_port.proofs.FormatLemmas.{same_spelling, spelled_so}
use Rattle.bundle_port.proofs.laws.one_spelling.Goals as goal

pub returns-clause-spelled : goal.returns-clause-spelled
returns-clause-spelled c = spelled_so

pub returns-clause-same : goal.returns-clause-same
returns-clause-same c = same_spelling
