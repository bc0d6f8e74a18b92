use Rattle.std.proofs.Common.{sym, ◌∙◌}
use Rattle.oathd_asking.proofs.TableLemmas.{found_in}
use Rattle.oathd_asking.proofs.table.field.Goals as goal

pub returns-in-Some-fields_in : goal.returns-in-Some-fields_in
returns-in-Some-fields_in c =
    sym (found_in c.args.word.now c.loop-line.rest.now c.in-Some.line.now c.in-Some.behind.now c.in-Some-fields_in.fields.now c.in-Some.ensures.some
    (sym c.in-Some-fields_in.ensures))
    ∙ c.loop-line.invariant
