use Rattle.retired_rows.proofs.StayLemmas.{named_stay, stays_again}
use Rattle.retired_rows.proofs.laws.named_rows_stay.Goals as goal

pub returns-clause-named : goal.returns-clause-named
returns-clause-named c = named_stay

pub returns-clause-again : goal.returns-clause-again
returns-clause-again c = stays_again
