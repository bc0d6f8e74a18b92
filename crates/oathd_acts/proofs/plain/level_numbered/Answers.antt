use Rattle.oathd_acts.proofs.PlainLemmas.{levelled_paths}
use Rattle.oathd_acts.proofs.plain.level_numbered.Goals as goal

pub returns-in-Ok : goal.returns-in-Ok
returns-in-Ok g c = levelled_paths _ _ c.args.node _ _ c.deref.ensures.value c.in-Ok.ensures
