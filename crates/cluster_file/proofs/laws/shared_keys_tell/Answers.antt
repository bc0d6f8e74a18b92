use Rattle.cluster_file.proofs.SharedLemmas.{shared_same}
use Rattle.cluster_file.proofs.laws.shared_keys_tell.Goals as goal

pub returns : goal.returns
returns c = λ key a b h k apart same. record { different = λ e. apart (shared_same a b h k e); same = same }
