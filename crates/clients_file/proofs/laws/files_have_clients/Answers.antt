use Rattle.clients_file.proofs.ClientsLemmas.{files_fit}
use Rattle.clients_file.proofs.laws.files_have_clients.Goals as goal

pub returns : goal.returns
returns c = files_fit
