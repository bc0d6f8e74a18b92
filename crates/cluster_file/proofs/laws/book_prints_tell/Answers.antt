use Rattle.cluster_file.proofs.RowsLemmas.{prints_tell}
use Rattle.cluster_file.proofs.laws.book_prints_tell.Goals as goal

pub returns : goal.returns
returns c = prints_tell
