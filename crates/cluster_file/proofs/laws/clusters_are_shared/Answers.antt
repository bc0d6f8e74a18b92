use Rattle.cluster_file.proofs.ClusterLemmas.{cluster_shared}
use Rattle.cluster_file.proofs.laws.clusters_are_shared.Goals as goal

pub returns : goal.returns
returns c = cluster_shared
