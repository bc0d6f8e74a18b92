use Rattle.oathd_acts.proofs.WordsLemmas.{floors_given, floors_named}
use Rattle.oathd_acts.proofs.plain.floors.Goals as goal

pub returns-in-Given : goal.returns-in-Given
returns-in-Given g c =
    floors_given _ _ c.args.node c.args.count c.args.site.now.cluster.now _ _ c.floors_among.result c.in-Given.members c.in-Given.is c.floors_among.ensures

pub returns-in-Named : goal.returns-in-Named
returns-in-Named g c =
    floors_named _ _ c.args.node c.args.count c.args.site.now.cluster.now _ _ c.floors_of_member.result _ c.in-Named.is c.floors_of_member.ensures
