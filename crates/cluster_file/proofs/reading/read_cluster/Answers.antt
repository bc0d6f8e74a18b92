use Rattle.cluster_file.proofs.ClusterLemmas.{members_read, names_read}
use Rattle.cluster_file.proofs.reading.read_cluster.Goals as goal

pub returns-clause-members : goal.returns-clause-members
returns-clause-members c = members_read c.args.text.now c.read_up_to.result c.read_up_to.ensures.cluster

pub returns-clause-names : goal.returns-clause-names
returns-clause-names c = names_read c.args.text.now c.read_up_to.result c.read_up_to.ensures.cluster
