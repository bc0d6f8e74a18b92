use Rattle.std.proofs.Common.{sym, ap, ◌∙◌}
use Rattle.std.specs.Prelude.{Ok}
use Rattle.floors_file.specs.Fields.{fields_left, number_value}
use Rattle.floors_file.proofs.FieldLemmas.{last_surplus}
use Rattle.floors_file.proofs.fields.last_number.Goals as goal

pub returns-in-Some : goal.returns-in-Some
returns-in-Some c =
    last_surplus (fields_left c.args.rest) c.in_ok-number.number c.in-Some.field-0.now
    (ap (λ rest. number_value (Ok (c.in_ok-number.number, rest))) (sym c.in-Some.is)
    ∙ sym (ap number_value c.in_ok-number.was) ∙ c.number_field.ensures)
