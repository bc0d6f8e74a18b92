use Rattle.oathd_acts.proofs.LooksLemmas.{usual}
use Rattle.oathd_acts.proofs.looks.look_by_place.Goals as goal

pub returns : goal.returns
returns g c = usual _ _ _ _ c.look_by.result c.args.look _ _ _ c.default-settings.ensures c.look_by.ensures
