use Rattle.oathd_acts.proofs.PlainLemmas.{migrated_by}
use Rattle.oathd_acts.proofs.plain.migrate.Goals as goal

pub returns-in-Node : goal.returns-in-Node
returns-in-Node g c = migrated_by _ _ c.args.owner _ c.args.members_were c.args.site.now.cluster.now c.migrate_numbered.result c.in-Node.is c.migrate_numbered.ensures

pub returns-in-Member : goal.returns-in-Member
returns-in-Member g c = migrated_by _ _ c.args.owner _ c.args.members_were c.args.site.now.cluster.now c.migrate_named.result c.in-Member.is c.migrate_named.ensures
