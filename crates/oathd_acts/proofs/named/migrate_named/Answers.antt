use Rattle.std.proofs.Common.{◌∙◌, Some, ap}
use Rattle.oathd_acts.proofs.NamedLemmas.{migrated}
use Rattle.oathd_acts.proofs.named.migrate_named.Goals as goal

pub returns : goal.returns
returns g c =
    migrated _ _ c.args.node c.args.site.now.cluster.now _ _ _ c.in_ok-place.ensures c.me.result c.me.ensures.value _ c.args.members_were c.in_ok-_conn._conn
    (c.in_ok-check_members.ensures ∙ ap Some c.n.ensures.value) c.in_ok-_conn.ensures.named
