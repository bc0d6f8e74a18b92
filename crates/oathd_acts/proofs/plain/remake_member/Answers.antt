use Rattle.oathd_acts.proofs.PlainLemmas.{member_remade, member_replaced}
use Rattle.oathd_acts.proofs.plain.remake_member.Goals as goal

pub returns : goal.returns
returns g c =
    member_replaced _ _ c.args.node c.args.moment c.args.site.now.cluster.now _ _ c.in_ok-cluster.cluster c.in_ok-place.place
    c.in_ok-cluster.ensures.cluster c.in_ok-place.ensures.place c.args.former c.in_ok-named.named c.remake_numbered.result c.in-None.is
    c.in_ok-named.ensures.names c.remake_numbered.ensures

pub returns-in-Some : goal.returns-in-Some
returns-in-Some g c =
    member_remade _ _ c.args.node c.args.moment c.args.site.now.cluster.now _ _ c.in_ok-cluster.cluster c.in_ok-place.place
    c.in_ok-cluster.ensures.cluster c.in_ok-place.ensures.place c.args.former c.in-Some.named c.in_ok-key-in-Some.key c.in_ok-named.named
    c.remake_named.result c.in-Some.is c.in_ok-named.ensures.names c.in_ok-key-in-Some.ensures.key c.remake_named.ensures
