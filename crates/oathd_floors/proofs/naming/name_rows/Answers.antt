use Rattle.oathd_floors.proofs.NamedLemmas.{named_so}
use Rattle.oathd_floors.proofs.naming.name_rows.Goals as goal

pub returns-in-Ok-clause-named : goal.returns-in-Ok-clause-named
returns-in-Ok-clause-named g c =
    named_so g.S.Store c.args.node c.args.entries.now c.args.own.now c.args.conn c.name_tables.new.conn c.name_tables.result _ c.in-Ok.is c.name_tables.ensures
