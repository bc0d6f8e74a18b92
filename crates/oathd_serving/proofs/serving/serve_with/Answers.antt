use Rattle.oathd_serving.proofs.EndsLemmas.{reloaded_well, served_with_well}
use Rattle.oathd_serving.proofs.serving.serve_with.Goals as goal

pub returns-then-reloads : goal.returns-then-reloads
returns-then-reloads g c =
    reloaded_well _ _ c.args.cluster c.args.turns c.args.is_logged c.args.clients c.args.site.now.cluster.now c.args.reloads
    c.reload.result c.if-reloads.true c.reload.ensures.boot

pub returns-else-reloads : goal.returns-else-reloads
returns-else-reloads g c =
    served_with_well _ _ c.args.cluster c.args.turns c.args.is_logged c.args.clients c.args.site.now.cluster.now c.args.reloads
    c.serve.result c.if-reloads.false c.serve.ensures
