use Rattle.oathd_acts.proofs.LooksLemmas.{looked_by_name}
use Rattle.oathd_acts.proofs.looks.look_by_name.Goals as goal

pub returns : goal.returns
returns g c =
    looked_by_name _ _ _ _ c.look_by.result c.args.node c.args.look c.args.site.now.cluster.now _ _ _ _ c.me.ensures.value c.in_ok-settings.ensures c.look_by.ensures
