use Rattle.oathd_serving.proofs.ReloadLemmas.{named_reloaded}
use Rattle.oathd_serving.proofs.reload.reload.Goals as goal

pub returns-clause-boot : goal.returns-clause-boot
returns-clause-boot g c =
    named_reloaded _ _ c.args.cluster c.in-Named.node _ c.args.turns c.args.is_logged c.args.clients c.args.site.now.cluster.now c.reload_member.result
    c.in-Named.is c.reload_member.ensures.boot
