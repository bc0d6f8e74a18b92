use Rattle.named_store.proofs.FloorLemmas.{own_kept, row_kept}
use Rattle.named_store.proofs.laws.floors_are_kept.Goals as goal

pub returns-clause-own : goal.returns-clause-own
returns-clause-own c = own_kept

pub returns-clause-of_each_row : goal.returns-clause-of_each_row
returns-clause-of_each_row c = row_kept
