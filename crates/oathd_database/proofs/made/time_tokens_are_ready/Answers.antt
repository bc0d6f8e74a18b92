use Rattle.oathd_database.proofs.ReadyLemmas.{reached}
use Rattle.oathd_database.proofs.made.time_tokens_are_ready.Goals as goal

pub returns : goal.returns
returns c = reached
