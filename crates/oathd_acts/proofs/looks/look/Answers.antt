use Rattle.oathd_acts.proofs.LooksLemmas.{owner_so}
use Rattle.oathd_acts.proofs.looks.look.Goals as goal

pub returns-in-Any : goal.returns-in-Any
returns-in-Any g c = owner_so _ _ _ _ c.look_by_place.result c.args.owner _ c.args.look c.args.site.now.cluster.now c.in-Any.is c.look_by_place.ensures

pub returns-in-Node : goal.returns-in-Node
returns-in-Node g c = owner_so _ _ _ _ c.look_by_place-in-Node.result c.args.owner _ c.args.look c.args.site.now.cluster.now c.in-Node.is c.look_by_place-in-Node.ensures

pub returns-in-Member : goal.returns-in-Member
returns-in-Member g c = owner_so _ _ _ _ c.look_by_name.result c.args.owner _ c.args.look c.args.site.now.cluster.now c.in-Member.is c.look_by_name.ensures
