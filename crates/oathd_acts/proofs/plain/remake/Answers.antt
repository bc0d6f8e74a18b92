use Rattle.std.proofs.Common.{refl}
use Rattle.oathd_acts.proofs.WordsLemmas.{remake_given, remake_named}
use Rattle.oathd_acts.proofs.plain.remake.Goals as goal

pub returns-in_ok-_store-in-Given : goal.returns-in_ok-_store-in-Given
returns-in_ok-_store-in-Given g c =
    remake_given _ _ c.args.node c.args.import c.args.moment c.args.site.now.cluster.now _ _ c.args.former c.in-Given.settings
    c.in_ok-_store-in-Given._store c.in-Given.is refl c.in_ok-_store-in-Given.ensures

pub returns-in-Named : goal.returns-in-Named
returns-in-Named g c =
    remake_named _ _ c.args.node c.args.import c.args.moment c.args.site.now.cluster.now _ _ c.remake_member.result c.args.former _ c.in-Named.is
    c.remake_member.ensures
