use Rattle.std.proofs.Common.{◌∙◌, ap, length, map}
use Rattle.std.proofs.lemmas.List.{length-map}
use Rattle.oathd_acts.proofs.NamedLemmas.{levelled_named}
use Rattle.oathd_acts.proofs.named.level_named.Goals as goal

pub returns-in-Ok : goal.returns-in-Ok
returns-in-Ok g c =
    let texts = c.deref-2.result.now in
    levelled_named _ _ c.args.node c.args.site.now.cluster.now _ _ _ c.in_ok-place.ensures (length c.args.floors.items) c.in_ok-key.key c.as_slice.result.now
    c.me.result c.in_ok-now.now (map (λ text. text.items) texts) c.in-Ok._store c.in_ok-key.ensures c.as_slice.ensures.value c.me.ensures.value
    c.in_ok-now.ensures.moment
    (length-map texts _ ∙ ap length c.deref-2.ensures.value ∙ c.in_ok-texts.ensures ∙ ap length c.deref.ensures.value) c.in-Ok.ensures.levelled
