use Rattle.oathd_tasks.proofs.ClientsLemmas.{unread_file}
use Rattle.oathd_tasks.proofs.clients.clients_at.Goals as goal

pub returns-in_err-text-clause-fault : goal.returns-in_err-text-clause-fault
returns-in_err-text-clause-fault g c =
    unread_file c.from_residual.result c.in_err-text.field-0.0 c.from_residual.ensures.1 c.in_err-text.ensures.fault
