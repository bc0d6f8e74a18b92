use Rattle.oathd_serving.proofs.EndsLemmas.{logged_well}
use Rattle.oathd_serving.proofs.serving.serve_logged.Goals as goal

pub returns : goal.returns
returns g c =
    logged_well _ _ c.args.cluster c.args.turns _ _ c.args.clients c.args.site.now.cluster.now c.args.reloads
    c.serve_with-end.result c.is_logged-is_logged.ensures c.serve_with-end.ensures
