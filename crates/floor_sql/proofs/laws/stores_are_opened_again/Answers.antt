use Rattle.floor_sql.proofs.ReopenLemmas.{finds_what_is_left}
use Rattle.floor_sql.proofs.laws.stores_are_opened_again.Goals as goal

pub returns : goal.returns
returns g c = finds_what_is_left
