use Rattle.std.proofs.Common.{◌∙◌, List, ap}
use Rattle.roster_sql.specs.declared.entry.Entry.{Entry}
use Rattle.oathd_roster.specs.Enrolled.{enrolled_rows}
use Rattle.oathd_roster.proofs.EnrolledLemmas.{looked_closed, rows_kept}
use Rattle.oathd_roster.proofs.opening.rows_in.Goals as goal

pub returns-clause-kept : goal.returns-clause-kept
returns-clause-kept g c =
    looked_closed g.S.Store c.args.conn c.close.result c.into_inner.result c.args.node c.args.cluster.now.bond c.in-Ok.looked.roster.items c.in-Ok.looked.store
    c.close.ensures.same c.into_inner.ensures c.in-Ok.ensures.looked

pub returns-clause-rows : goal.returns-clause-rows
returns-clause-rows g c =
    let text = c.args.text.now in
    let are = c.in-Ok-enrolled_rows.ensures
    ∙ ap (λ (rows : List Entry). enrolled_rows c.args.cluster.now.salt c.args.settings rows text) c.deref.ensures.value in
    rows_kept g.S.Store c.args.cluster.now c.args.settings c.args.conn c.args.node c.in-Ok.looked.roster.items c.in-Ok.looked.store text c.in-Ok-enrolled_rows.kept.items
    c.in-Ok.ensures.looked are
