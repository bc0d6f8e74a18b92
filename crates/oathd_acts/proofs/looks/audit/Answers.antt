use Rattle.oathd_acts.proofs.looks.audit.Goals as goal

pub returns : goal.returns
returns g c = (_, c.in_ok-audit_store.ensures.audited)
