use Rattle.oathd_acts.proofs.PlainLemmas.{created}
use Rattle.oathd_acts.proofs.plain.init_given.Goals as goal

pub returns : goal.returns
returns g c =
    created _ _ c.args.node _ c.args.settings c.args.moment c.in_ok-moment.moment c.in_ok-_store._store c.in_ok-moment.ensures.moment c.in_ok-_store.ensures.made
