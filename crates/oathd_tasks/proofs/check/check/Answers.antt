use Rattle.std.proofs.Common.{List, Some, ℕ, subst}
use Rattle.cluster_file.specs.ClusterFile.{cluster_value}
use Rattle.oathd_tasks.specs.Check.{CheckEndsSo}
use Rattle.oathd_tasks.proofs.CheckLemmas.{ends_checked}
use Rattle.oathd_tasks.proofs.check.check.Goals as goal

pub returns : goal.returns
returns g c =
    let old = g.O.Write.contents c.args.held.now in
    let new = g.O.Write.contents c.check_users.new.held in
    subst (λ (rows : List ℕ). CheckEndsSo c.args.text.now (Some rows) c.check_users.result old new) c.as_slice.ensures.value
    (ends_checked c.args.text.now (cluster_value c.in_ok-cluster.cluster) c.in_ok-key.key _ old new c.check_users.result
    c.in_ok-cluster.ensures.cluster c.in_ok-key.ensures.key c.check_users.ensures)
