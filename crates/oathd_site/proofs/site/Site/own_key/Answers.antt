use Rattle.cluster_file.specs.ClusterFile.{cluster_value}
use Rattle.oathd_site.proofs.site.Site.own_key.Goals as goal

pub returns : goal.returns
returns c = record { cluster = cluster_value c.in_ok-cluster.cluster; of_text = c.in_ok-cluster.ensures.cluster; is_in = c.in_ok-key.ensures.key }
