use Rattle.oathd_acts.proofs.PlainLemmas.{floors_told}
use Rattle.oathd_acts.proofs.plain.floors_among.Goals as goal

pub returns : goal.returns
returns g c =
    floors_told _ _ c.args.node _ c.args.members c.in_ok-moment.moment _ _ c.in_ok-moment.ensures.moment c.in_ok-floors_store.ensures.told
