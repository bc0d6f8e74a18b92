use Rattle.std.proofs.Common.{sym, ap, ◌∙◌}
use Rattle.std.specs.Prelude.{Ok}
use Rattle.floors_file.specs.Fields.{field_value, fields_left}
use Rattle.floors_file.proofs.FieldLemmas.{field_surplus}
use Rattle.floors_file.proofs.fields.last_field.Goals as goal

pub returns-in-Some : goal.returns-in-Some
returns-in-Some c =
    field_surplus (fields_left c.args.rest) c.in_ok-field.field.now c.in-Some.field-0.now
    (ap (λ rest. field_value (Ok (c.in_ok-field.field, rest))) (sym c.in-Some.is)
    ∙ sym (ap field_value c.in_ok-field.was) ∙ c.next_field.ensures)
