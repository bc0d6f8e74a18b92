use Rattle.oathd_acts.proofs.PlainLemmas.{member_created}
use Rattle.oathd_acts.proofs.plain.init_member.Goals as goal

pub returns : goal.returns
returns g c =
    member_created _ _ c.args.node c.args.moment c.args.site.now.cluster.now _ _ c.in_ok-cluster.cluster c.in_ok-place.place
    c.in_ok-cluster.ensures.cluster c.in_ok-place.ensures.place c.in_ok-_store._store c.in_ok-refuse_names.ensures.unnamed c.in_ok-moment.moment _ c.in_ok-moment.ensures.moment
    c.in_ok-_store.ensures.made
