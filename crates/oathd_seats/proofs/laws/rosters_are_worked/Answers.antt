-- Each case is computed.
use Rattle.std.proofs.Common.{refl}
use Rattle.std.specs.Fmt.{digits}
use Rattle.hex.specs.Hex.{encode_with}
use Rattle.oathd_roster.specs.Roster.{row_end, row_start}
use Rattle.oathd_seats.proofs.laws.rosters_are_worked.Goals as goal

pub returns-clause-line : goal.returns-clause-line
unfolding digits encode_with row_start row_end
returns-clause-line c = refl

pub returns-clause-one_retired : goal.returns-clause-one_retired
unfolding digits encode_with row_start row_end
returns-clause-one_retired c = refl

pub returns-clause-no_users : goal.returns-clause-no_users
unfolding digits encode_with row_start row_end
returns-clause-no_users c = refl

pub returns-clause-no_rows : goal.returns-clause-no_rows
returns-clause-no_rows c = refl
