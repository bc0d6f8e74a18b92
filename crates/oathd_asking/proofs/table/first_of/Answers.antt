use Rattle.std.proofs.Common.{None, Some, sym, ◌∙◌}
use Rattle.oathd_asking.proofs.TableLemmas.{first_by}
use Rattle.oathd_asking.proofs.table.first_of.Goals as goal

pub returns-in-Some : goal.returns-in-Some
returns-in-Some c =
    c.as_slice.ensures.value ∙ sym (first_by (λ text. text.items) c.args.texts.now (Some c.in-Some.text.now) c.in-Some.ensures)

pub returns-in-None : goal.returns-in-None
returns-in-None c = sym (first_by (λ text. text.items) c.args.texts.now None c.in-None.ensures)
