use Rattle.oathd_acts.proofs.PlainLemmas.{levelled_by}
use Rattle.oathd_acts.proofs.plain.level.Goals as goal

pub returns-in-Node : goal.returns-in-Node
returns-in-Node g c = levelled_by _ _ c.args.owner _ _ c.args.site.now.cluster.now c.level_numbered.result c.in-Node.is c.level_numbered.ensures

pub returns-in-Member : goal.returns-in-Member
returns-in-Member g c = levelled_by _ _ c.args.owner _ _ c.args.site.now.cluster.now c.level_named.result c.in-Member.is c.level_named.ensures
