use Rattle.oathd_site.proofs.NamesLemmas.{member_by_names}
use Rattle.oathd_site.proofs.site.Site.member.Goals as goal

pub returns-in-Some : goal.returns-in-Some
returns-in-Some c =
    member_by_names c.args.node c.args.self.now.cluster.now c.in_ok-cluster.cluster c.in_ok-named.named c.in-Some.named c.in_ok-place.place
    c.in_ok-cluster.ensures.cluster c.in_ok-named.ensures.names c.in-Some.is c.in_ok-place.ensures.place
