use Rattle.oathd_acts.proofs.NamedLemmas.{dropped, told_roster}
use Rattle.oathd_acts.proofs.named.roster.Goals as goal

pub returns-then-drops : goal.returns-then-drops
returns-then-drops g c =
    dropped _ _ c.args.node c.args.site.now.cluster.now _ _ _ c.in_ok-settings.ensures c.me-me.result c.me-me.ensures.value _ c.args.drops _ _ c.in_ok-_conn._conn c.if-drops.true
    c.in_ok-_conn.ensures.dropped

pub returns : goal.returns
returns g c =
    told_roster _ _ c.args.node c.args.site.now.cluster.now _ _ _ c.in_ok-settings.ensures c.me-me.result c.me-me.ensures.value _ c.args.drops _ _ c.if-drops.false c.in_ok-roster_named_store.ensures.told
