use Rattle.std.proofs.Common.{map}
use Rattle.floors_file.specs.Floors.{floor_value}
use Rattle.floors_file.proofs.ReadingLemmas.{bad_rows, floors_bad, floors_read}
use Rattle.floors_file.proofs.reading.read_floors.Goals as goal

pub returns-in_err-rows-clause-fault : goal.returns-in_err-rows-clause-fault
returns-in_err-rows-clause-fault c =
    bad_rows c.args.text.now c.from_residual.result c.in_err-rows.field-0.0 c.from_residual.ensures.1 (λ of_text. floors_bad c.args.text.now
    c.in-Some.first.now c.in-Some.rest.now c.in-Ok.line (c.in_err-rows.field-0.0.line, c.in_err-rows.field-0.0.kind) c.in-Some.ensures.some c.in-Ok.ensures
    (c.in_err-rows.ensures.fault of_text))

pub returns-clause-floors : goal.returns-clause-floors
returns-clause-floors c =
    floors_read c.args.text.now c.in-Some.first.now c.in-Some.rest.now c.in-Ok.line (map floor_value c.in_ok-rows.rows.items)
    c.in-Some.ensures.some c.in-Ok.ensures c.in_ok-rows.ensures.rows
