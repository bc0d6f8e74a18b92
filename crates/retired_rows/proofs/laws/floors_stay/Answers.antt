use Rattle.retired_rows.proofs.StayLemmas.{greatest_stays}
use Rattle.retired_rows.proofs.laws.floors_stay.Goals as goal

pub returns : goal.returns
returns c = greatest_stays
