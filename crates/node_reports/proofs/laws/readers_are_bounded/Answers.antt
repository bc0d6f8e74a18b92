use Rattle.node_reports.proofs.AllowanceLemmas.{are_bounded}
use Rattle.node_reports.proofs.laws.readers_are_bounded.Goals as goal

pub returns : goal.returns
returns c requests = are_bounded requests
