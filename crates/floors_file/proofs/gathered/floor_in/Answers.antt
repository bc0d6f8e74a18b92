use Rattle.std.proofs.Common.{Some, None}
use Rattle.floors_file.proofs.GatheredLemmas.{floor_found}
use Rattle.floors_file.proofs.gathered.floor_in.Goals as goal

pub returns-in-Some : goal.returns-in-Some
returns-in-Some c = floor_found c.args.user.now c.args.rows.now (Some c.in-Some.row) c.in-Some.ensures

pub returns-in-None : goal.returns-in-None
returns-in-None c = floor_found c.args.user.now c.args.rows.now None c.in-None.ensures
