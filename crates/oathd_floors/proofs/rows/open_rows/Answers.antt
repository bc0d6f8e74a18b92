use Rattle.std.proofs.Common.{subst, sym}
use Rattle.oathd_roster.specs.declared.fault.RosterFault.{RosterFault}
use Rattle.oathd_floors.specs.Rows.{IsNotRead}
use Rattle.oathd_floors.proofs.RowsLemmas.{has_rows, not_read}
use Rattle.oathd_floors.proofs.rows.open_rows.Goals as goal

pub returns-in-Ok-clause-opened : goal.returns-in-Ok-clause-opened
returns-in-Ok-clause-opened g c =
    has_rows g.S.Store g.D.Database.finds c.args.cluster.now.bond c.in_ok-conn.conn c.in_ok-conn.ensures.found c.args.node c.in-Ok.looked.roster.items
    c.in-Ok.looked.store c.into_inner.result c.into_inner.ensures c.in-Ok.ensures.looked

pub returns-in-Err-clause-fault : goal.returns-in-Err-clause-fault
returns-in-Err-clause-fault g c =
    subst (λ (f : RosterFault). IsNotRead g.S.Store g.D.Database.finds c.args.cluster.now.bond f) (sym c.fault_of.ensures)
    (not_read g.S.Store g.D.Database.finds c.args.cluster.now.bond c.in_ok-conn.conn c.in_ok-conn.ensures.found c.args.node c.in-Err._left c.in-Err.fault
    c.in-Err.ensures.kept c.in-Err.ensures.fault c.in-Err.ensures.known)
