use Rattle.std.proofs.Common.{◌∙◌, sym}
use Rattle.kept_rows.proofs.RowLemmas.{next_at}
use Rattle.kept_rows.proofs.rows.is_at.Goals as goal

pub returns-in-Some : goal.returns-in-Some
returns-in-Some c =
    let found = c.in-Some.ensures.lookup in
    c.eq.ensures ∙ sym (next_at c.args.lines.now c.args.place c.in-Some.next.now c.args.line.now found.3.0 found.1)
