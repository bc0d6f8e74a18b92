use Rattle.std.proofs.Common.{subst}
use Rattle.cluster_file.specs.ClusterFile.{cluster_value}
use Rattle.node_serving.specs.declared.serving.Serving.{Serving}
use Rattle.oathd_site.specs.Names.{AreNamesIn, IsNamedOf}
use Rattle.oathd_serving.specs.Serve.{IsMemberOf, IsRunOf}
use Rattle.oathd_serving.proofs.ReloadLemmas.{first_boot}
use Rattle.oathd_serving.proofs.WordsLemmas.{member_asked}
use Rattle.oathd_serving.proofs.reload.reload_member.Goals as goal

pub returns-in-Ok-clause-boot : goal.returns-in-Ok-clause-boot
returns-in-Ok-clause-boot g c =
    first_boot _ _ (λ (serving : Serving). IsMemberOf c.args.node c.args.site.now.cluster.now serving × IsRunOf c.args.turns c.args.is_logged c.args.clients serving)
    (IsNamedOf c.args.site.now.cluster.now) _ c.in-Ok.serving _ c.args.turns c.serve_boots.result
    (member_asked c.args.node c.args.site.now.cluster.now c.args.turns c.args.is_logged c.args.clients c.in-Ok.serving _ c.in_ok-key.key c.in_ok-place.place
    c.in_ok-lines.lines c.in_ok-cluster.ensures.cluster c.in_ok-key.ensures.key c.in_ok-place.ensures.place c.in_ok-lines.ensures.lines c.in-Ok.ensures)
    (record { cluster = cluster_value c.in_ok-cluster.cluster; of_text = c.in_ok-cluster.ensures.cluster; is_in = subst (AreNamesIn (cluster_value c.in_ok-cluster.cluster)) c.in-Some.is c.in_ok-named.ensures.names })
    c.in-Ok.ensures.1 c.serve_boots.ensures.boots
