use Rattle.oathd_acts.proofs.looks.gates.Goals as goal

pub returns : goal.returns
returns g c = (_, c.in_ok-gates_store.ensures.told)
