use Rattle.oathd_acts.proofs.PlainLemmas.{members_floors, members_named_floors}
use Rattle.oathd_acts.proofs.plain.floors_of_member.Goals as goal

pub returns : goal.returns
returns g c =
    members_floors _ _ c.args.node c.args.site.now.cluster.now _ _ c.in_ok-cluster.cluster c.in_ok-place.place c.in_ok-cluster.ensures.cluster
    c.in_ok-place.ensures.place c.in_ok-named.named c.n-in-None.result c.floors_among.result c.n-in-None.ensures.value c.in-None.is
    c.in_ok-named.ensures.names c.floors_among.ensures

pub returns-in-Some : goal.returns-in-Some
returns-in-Some g c =
    members_named_floors _ _ c.args.node c.args.site.now.cluster.now _ _ c.in_ok-cluster.cluster c.in_ok-cluster.ensures.cluster c.in-Some.named
    c.in_ok-key-in-Some.key c.in_ok-named.named c.floors_by_names.result c.in-Some.is c.in_ok-named.ensures.names c.in_ok-key-in-Some.ensures.key
    c.floors_by_names.ensures
