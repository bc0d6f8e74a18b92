-- The node's floors file is of the rows of its store.
use Rattle.std.proofs.Common.{◌≡◌, List, sym, subst}
use Rattle.std.specs.Prelude.{replicate}
use Rattle.floor_sql.specs.Held.{sql_held}
use Rattle.floors_file.specs.NamedWriting.{named_floors_text}
use Rattle.named_floors.specs.Told.{TellingRecord, telling_value, told_named}
use Rattle.operator_text.specs.declared.request.Report.{Report}
use Rattle.roster_sql.specs.declared.entry.Entry.{Entry}
use Rattle.node_reports.specs.Reports.{IsNamedText, telling_of}
use Rattle.node_reports.proofs.named.NamedRowsReportSourceSeatedStoreSqlStore.text.Goals as goal

pub returns-in_ok-floors_text-in-Floors : goal.returns-in_ok-floors_text-in-Floors
returns-in_ok-floors_text-in-Floors g c =
    let rows = c.args.self.now in
    let text = c.in_ok-floors_text-in-Floors.field-0.items in
    subst (λ (report : Report). IsNamedText g.A.Store rows c.args.store.now report c.args.moment text) (sym c.in-Floors.is) (λ clean.
    let at_rows = subst (λ store. (sql_held g.A.Store store).is_clean → text ≡ named_floors_text rows.key.now
    (told_named (telling_value c.telling-telling.result) c.deref.result.now (replicate 10 0) (sql_held g.A.Store store).content))
    c.inner-rows.ensures c.in_ok-floors_text-in-Floors.ensures in
    let of_telling = subst (λ (telling : TellingRecord). text ≡ named_floors_text rows.key.now
    (told_named telling c.deref.result.now (replicate 10 0) c.args.store.now.inner.mirror)) c.telling-telling.ensures (at_rows clean) in
    subst (λ (roster : List Entry). text ≡ named_floors_text rows.key.now (told_named (telling_of rows c.args.moment) roster (replicate 10 0) c.args.store.now.inner.mirror))
    c.deref.ensures.value of_telling)
