use Rattle.std.proofs.Common.{sym, ◌∙◌}
use Rattle.field_text.proofs.NumberLemmas.{no_digits, digits_are_text, number_parsed}
use Rattle.field_text.proofs.number.read_number.Goals as goal

pub returns-then-not-is_all_digits : goal.returns-then-not-is_all_digits
returns-then-not-is_all_digits c = no_digits c.args.text.now (sym c.is_all_digits.ensures ∙ c.if-not-is_all_digits.true)

pub returns-in-Err : goal.returns-in-Err
returns-in-Err c = absurd (c.in-Err.ensures.cases.0 (digits_are_text c.args.text.now (sym c.is_all_digits.ensures ∙ c.if-not-is_all_digits.false)))

pub returns-in-Ok : goal.returns-in-Ok
returns-in-Ok c =
    let digits = sym c.is_all_digits.ensures ∙ c.if-not-is_all_digits.false in
    c.ok.ensures.value ∙ number_parsed c.args.text.now c.parse.result digits (rw c.in-Ok.ensures.cases.0 at c.parse.ensures.value.0)
