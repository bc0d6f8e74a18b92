use Rattle.oathd_tasks.proofs.KeyLemmas.{unread_file}
use Rattle.oathd_tasks.proofs.key.read_key.Goals as goal

pub returns-in_err-text-clause-fault : goal.returns-in_err-text-clause-fault
returns-in_err-text-clause-fault g c =
    unread_file c.from_residual.result c.in_err-text.field-0.0 c.from_residual.ensures.1 c.in_err-text.ensures.fault
