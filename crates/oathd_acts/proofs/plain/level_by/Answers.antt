use Rattle.std.proofs.Common.{◌∙◌, ap, length, map}
use Rattle.std.proofs.lemmas.List.{length-map}
use Rattle.oathd_acts.proofs.PlainLemmas.{levelled}
use Rattle.oathd_acts.proofs.plain.level_by.Goals as goal

pub returns-in-Ok : goal.returns-in-Ok
returns-in-Ok g c =
    let texts = c.deref.result.now in
    levelled _ _ c.args.node _ _ (map (λ text. text.items) texts) c.in-Ok._store
    (length-map texts _ ∙ ap length c.deref.ensures.value ∙ c.in_ok-texts.ensures) c.in-Ok.ensures.levelled
