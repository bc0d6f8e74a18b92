use Rattle.cluster_file.specs.ClusterFile.{cluster_of, cluster_value}
use Rattle.node_serving.specs.declared.serving.Serving.{Serving}
use Rattle.oathd_serving.specs.Ends.{EndsSo}
use Rattle.oathd_site.specs.Names.{names_in}
use Rattle.oathd_serving.specs.Serve.{IsMemberOf, IsRunOf}
use Rattle.oathd_site.specs.declared.fault.Fault.TheVariants.{Task}
use Rattle.oathd_serving.proofs.FaultLemmas.{failed_so}
use Rattle.oathd_serving.proofs.EndsLemmas.{ends_by_files, ends_by_names}
use Rattle.oathd_serving.proofs.WordsLemmas.{member_asked}
use Rattle.oathd_serving.proofs.serving.serve_member.Goals as goal

pub returns-in-Ok : goal.returns-in-Ok
returns-in-Ok g c =
    ends_by_names _ _ (λ (serving : Serving). IsMemberOf c.args.node c.args.site.now.cluster.now serving × IsRunOf c.args.turns c.args.is_logged c.args.clients serving) c.args.site.now.cluster.now
    (cluster_value c.in_ok-cluster.cluster) c.in_ok-cluster.ensures.cluster c.in-Ok.serving
    (member_asked c.args.node c.args.site.now.cluster.now c.args.turns c.args.is_logged c.args.clients c.in-Ok.serving _ c.in_ok-key.key c.in_ok-place.place
    c.in_ok-lines.lines c.in_ok-cluster.ensures.cluster c.in_ok-key.ensures.key c.in_ok-place.ensures.place c.in_ok-lines.ensures.lines c.in-Ok.ensures)
    c.serve_by.result c.in_ok-named.named c.in_ok-named.ensures.names c.serve_by.ensures

pub returns-in_err-cluster : goal.returns-in_err-cluster
returns-in_err-cluster g c =
    failed_so c.from_residual.result (Task c.in_err-cluster.field-0.0) (EndsSo _ _ (λ (serving : Serving). IsMemberOf c.args.node c.args.site.now.cluster.now serving × IsRunOf c.args.turns c.args.is_logged c.args.clients serving) c.args.site.now.cluster.now (names_in (cluster_of c.args.site.now.cluster.now)))
    c.from_residual.ensures.1 (ends_by_files _ _ (λ (serving : Serving). IsMemberOf c.args.node c.args.site.now.cluster.now serving × IsRunOf c.args.turns c.args.is_logged c.args.clients serving) c.args.site.now.cluster.now (names_in (cluster_of c.args.site.now.cluster.now)) (Task c.in_err-cluster.field-0.0) tt)

pub returns-in_err-place : goal.returns-in_err-place
returns-in_err-place g c =
    failed_so c.from_residual-in_err-place.result (Task c.in_err-place.field-0.0) (EndsSo _ _ (λ (serving : Serving). IsMemberOf c.args.node c.args.site.now.cluster.now serving × IsRunOf c.args.turns c.args.is_logged c.args.clients serving) c.args.site.now.cluster.now (names_in (cluster_of c.args.site.now.cluster.now)))
    c.from_residual-in_err-place.ensures.1 (ends_by_files _ _ (λ (serving : Serving). IsMemberOf c.args.node c.args.site.now.cluster.now serving × IsRunOf c.args.turns c.args.is_logged c.args.clients serving) c.args.site.now.cluster.now (names_in (cluster_of c.args.site.now.cluster.now)) (Task c.in_err-place.field-0.0) tt)

pub returns-in_err-key : goal.returns-in_err-key
returns-in_err-key g c =
    failed_so c.from_residual-in_err-key.result (Task c.in_err-key.field-0.0) (EndsSo _ _ (λ (serving : Serving). IsMemberOf c.args.node c.args.site.now.cluster.now serving × IsRunOf c.args.turns c.args.is_logged c.args.clients serving) c.args.site.now.cluster.now (names_in (cluster_of c.args.site.now.cluster.now)))
    c.from_residual-in_err-key.ensures.1 (ends_by_files _ _ (λ (serving : Serving). IsMemberOf c.args.node c.args.site.now.cluster.now serving × IsRunOf c.args.turns c.args.is_logged c.args.clients serving) c.args.site.now.cluster.now (names_in (cluster_of c.args.site.now.cluster.now)) (Task c.in_err-key.field-0.0) tt)

pub returns-in_err-lines : goal.returns-in_err-lines
returns-in_err-lines g c =
    let fault = c.in_err-lines.field-0.0 in
    failed_so c.from_residual-in_err-lines.result fault (EndsSo _ _ (λ (serving : Serving). IsMemberOf c.args.node c.args.site.now.cluster.now serving × IsRunOf c.args.turns c.args.is_logged c.args.clients serving) c.args.site.now.cluster.now (names_in (cluster_of c.args.site.now.cluster.now)))
    c.from_residual-in_err-lines.ensures.1 (ends_by_files _ _ (λ (serving : Serving). IsMemberOf c.args.node c.args.site.now.cluster.now serving × IsRunOf c.args.turns c.args.is_logged c.args.clients serving) c.args.site.now.cluster.now (names_in (cluster_of c.args.site.now.cluster.now)) fault c.in_err-lines.ensures.fault)

pub returns-in_err-named : goal.returns-in_err-named
returns-in_err-named g c =
    let fault = c.in_err-named.field-0.0 in
    failed_so c.from_residual-in_err-named.result fault (EndsSo _ _ (λ (serving : Serving). IsMemberOf c.args.node c.args.site.now.cluster.now serving × IsRunOf c.args.turns c.args.is_logged c.args.clients serving) c.args.site.now.cluster.now (names_in (cluster_of c.args.site.now.cluster.now)))
    c.from_residual-in_err-named.ensures.1 (ends_by_files _ _ (λ (serving : Serving). IsMemberOf c.args.node c.args.site.now.cluster.now serving × IsRunOf c.args.turns c.args.is_logged c.args.clients serving) c.args.site.now.cluster.now (names_in (cluster_of c.args.site.now.cluster.now)) fault c.in_err-named.ensures.fault)
