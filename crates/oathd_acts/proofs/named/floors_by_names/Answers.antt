use Rattle.oathd_acts.proofs.NamedLemmas.{named_floors_told}
use Rattle.oathd_acts.proofs.named.floors_by_names.Goals as goal

pub returns : goal.returns
returns g c =
    named_floors_told _ _ c.args.named.now c.args.key.now c.as_slice.result.now c.args.node c.in_ok-moment.moment _ _ c.as_slice.ensures.value
    c.in_ok-moment.ensures.moment c.in_ok-tell_named_floors.ensures.told
