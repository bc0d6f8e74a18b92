use Rattle.oathd_acts.proofs.looks.export.Goals as goal

pub returns : goal.returns
returns g c = (_, c.in_ok-export_store.ensures.exported)
