use Rattle.floor_port.proofs.RowLemmas.{row_within}
use Rattle.floor_port.proofs.rows.row_of.Goals as goal

pub returns-clause-within : goal.returns-clause-within
returns-clause-within c = row_within c.args.names.now c.args.name c.number.result c.number.ensures.named
