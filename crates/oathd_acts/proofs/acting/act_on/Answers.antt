use Rattle.oathd_acts.proofs.WordsLemmas.{done_so}
use Rattle.oathd_acts.proofs.acting.act_on.Goals as goal

pub returns-in-Init : goal.returns-in-Init
returns-in-Init g c = done_so _ _ c.args.action _ c.args.site.now.cluster.now _ _ c.init.result c.in-Init.is c.init.ensures

pub returns-in-Remake : goal.returns-in-Remake
returns-in-Remake g c = done_so _ _ c.args.action _ c.args.site.now.cluster.now _ _ c.remake.result c.in-Remake.is c.remake.ensures

pub returns-in-Look : goal.returns-in-Look
returns-in-Look g c = done_so _ _ c.args.action _ c.args.site.now.cluster.now _ _ c.look.result c.in-Look.is c.look.ensures

pub returns-in-Migrate : goal.returns-in-Migrate
returns-in-Migrate g c = done_so _ _ c.args.action _ c.args.site.now.cluster.now _ _ c.migrate.result c.in-Migrate.is c.migrate.ensures

pub returns-in-Floors : goal.returns-in-Floors
returns-in-Floors g c = done_so _ _ c.args.action _ c.args.site.now.cluster.now _ _ c.floors.result c.in-Floors.is c.floors.ensures

pub returns-in-Level : goal.returns-in-Level
returns-in-Level g c = done_so _ _ c.args.action _ c.args.site.now.cluster.now _ _ c.level.result c.in-Level.is c.level.ensures

pub returns-in-Begin : goal.returns-in-Begin
returns-in-Begin g c = done_so _ _ c.args.action _ c.args.site.now.cluster.now _ _ c.begin.result c.in-Begin.is c.begin.ensures

pub returns-in-Roster : goal.returns-in-Roster
returns-in-Roster g c = done_so _ _ c.args.action _ c.args.site.now.cluster.now _ _ c.roster.result c.in-Roster.is c.roster.ensures
