use Rattle.std.proofs.Common.{length, refl, ◌∙◌}
use Rattle.oathd_asking.proofs.TableLemmas.{well_map}
use Rattle.oathd_asking.proofs.table.are_well.Goals as goal

pub returns : goal.returns
returns c =
    c.are_well_beside.ensures ∙ well_map (λ text. text.items) c.args.texts.now c.first_of.result.now (length c.args.texts.now) c.first_of.ensures refl
