use Rattle.cluster_file.proofs.SharedLemmas.{shared_same}
use Rattle.cluster_file.proofs.laws.shared_texts_tell.Goals as goal

pub returns : goal.returns
returns c = shared_same
