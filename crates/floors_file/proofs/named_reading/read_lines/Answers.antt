use Rattle.std.proofs.Common.{sym, ap, ◌∙◌}
use Rattle.std.specs.Prelude.{Ok}
use Rattle.floors_file.specs.Named.{named_head_value}
use Rattle.floors_file.proofs.NamedReadingLemmas.{bad_heard, named_bad_heard, named_bad_rows, named_read}
use Rattle.floors_file.proofs.named_reading.read_lines.Goals as goal

pub returns-in-Err-read_named_rows-clause-fault : goal.returns-in-Err-read_named_rows-clause-fault
returns-in-Err-read_named_rows-clause-fault c = λ of_text.
    named_bad_rows c.args.text.now c.in-Some.first.now c.in-Some.rest.now (record { head = named_head_value c.in-Ok.line.head; rows = c.in-Ok.line.rows })
    (c.in-Err-read_named_rows.fault.line, c.in-Err-read_named_rows.fault.kind) c.in-Some.ensures.some c.in-Ok.ensures.line
    (c.in-Err-read_named_rows.ensures.fault of_text)

pub returns-in_err-heard-clause-fault : goal.returns-in_err-heard-clause-fault
returns-in_err-heard-clause-fault c =
    bad_heard c.args.text.now c.from_residual.result c.in_err-heard.field-0.0 c.from_residual.ensures.1 (λ of_text.
    named_bad_heard c.args.text.now c.in-Some.first.now c.in-Some.rest.now c.in-Ok-read_named_rows.read.1.now
    (record { head = named_head_value c.in-Ok.line.head; rows = c.in-Ok.line.rows }) c.in-Ok-read_named_rows.read.0
    (c.in_err-heard.field-0.0.line, c.in_err-heard.field-0.0.kind) c.in-Some.ensures.some c.in-Ok.ensures.line c.in-Ok-read_named_rows.ensures.rows
    (c.in_err-heard.ensures.fault of_text))

pub returns-clause-floors : goal.returns-clause-floors
returns-clause-floors c =
    let head = named_head_value c.in-Ok.line.head in
    named_read c.args.text.now c.in-Some.first.now c.in-Some.rest.now c.in-Ok-read_named_rows.read.1.now (record { head = head; rows = c.in-Ok.line.rows })
    c.in-Ok-read_named_rows.read.0 c.in_ok-heard.heard.items c.in-Some.ensures.some c.in-Ok.ensures.line c.in-Ok-read_named_rows.ensures.rows
    c.in_ok-heard.ensures.heard
    ∙ ap (λ rows. Ok (record { head = head; rows = rows; heard = c.in_ok-heard.heard.items })) (sym c.into_rows.ensures)
