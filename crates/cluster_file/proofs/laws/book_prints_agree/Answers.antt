use Rattle.cluster_file.proofs.RowsLemmas.{prints_agree}
use Rattle.cluster_file.proofs.laws.book_prints_agree.Goals as goal

pub returns : goal.returns
returns c = prints_agree
