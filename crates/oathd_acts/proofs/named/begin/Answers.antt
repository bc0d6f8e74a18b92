use Rattle.oathd_acts.proofs.NamedLemmas.{begun}
use Rattle.oathd_acts.proofs.named.begin.Goals as goal

pub returns : goal.returns
returns g c =
    begun _ _ c.args.node c.args.site.now.cluster.now _ _ _ c.in_ok-settings.ensures _ _ _ c.in_ok-moment.moment c.in_ok-_store._store c.in_ok-moment.ensures.moment
    c.in_ok-_store.ensures.begun
