use Rattle.std.proofs.Common.{refl}
use Rattle.oathd_acts.proofs.WordsLemmas.{init_given, init_named}
use Rattle.oathd_acts.proofs.plain.init.Goals as goal

pub returns-in-Given : goal.returns-in-Given
returns-in-Given g c =
    init_given _ _ c.args.node c.args.import c.args.moment c.args.site.now.cluster.now _ _ c.init_given.result c.in-Given.settings c.in-Given.is refl
    c.init_given.ensures

pub returns-in-Named : goal.returns-in-Named
returns-in-Named g c =
    init_named _ _ c.args.node c.args.import c.args.moment c.args.site.now.cluster.now _ _ c.init_member.result _ c.in-Named.is c.init_member.ensures
