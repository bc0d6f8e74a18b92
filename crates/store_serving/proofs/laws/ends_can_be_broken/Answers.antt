-- The import of a comment.
use Rattle.std.proofs.Common.{[], refl}
use Rattle.std.specs.Prelude.{codes}
use Rattle.otp_core.specs.Limits.{default_limits}
use Rattle.oathd_database.specs.Commands.{HasImport}
use Rattle.store_serving.proofs.laws.ends_can_be_broken.Goals as goal

none : HasImport default_limits 0 6 (codes "# none")
none = record { book = []; floors = []; imported = refl }

pub returns-clause-serving : goal.returns-clause-serving
returns-clause-serving c = none

pub returns-clause-serving_no_clock : goal.returns-clause-serving_no_clock
returns-clause-serving_no_clock c = none

pub returns-clause-serving_store : goal.returns-clause-serving_store
returns-clause-serving_store c = none
