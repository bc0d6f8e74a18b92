use Rattle.floor_sql.proofs.StepLemmas.{changes, refuses, steps_then}
use Rattle.roster_renewal.proofs.dropping.drop_tables.Goals as goal

pub drop_floors-requires-clause-inside : goal.drop_floors-requires-clause-inside
drop_floors-requires-clause-inside g c = c.in_ok-drop_names.ensures.steps.goes

pub drop_floors-requires-clause-schema : goal.drop_floors-requires-clause-schema
drop_floors-requires-clause-schema g c clean = c.in_ok-drop_names.ensures.made clean

pub returns : goal.returns
returns g c = changes (steps_then c.in_ok-drop_names.ensures.steps c.in_ok-drop_floors.ensures.steps) c.in_ok-drop_floors.ensures.made

pub returns-in_err-drop_names : goal.returns-in_err-drop_names
returns-in_err-drop_names g c = refuses c.from_residual.ensures.1
    c.in_err-drop_names.ensures.steps
    (λ clean is. absurd (c.in_err-drop_names.ensures.unusable clean is))

pub returns-in_err-drop_floors : goal.returns-in_err-drop_floors
returns-in_err-drop_floors g c = refuses c.from_residual-in_err-drop_floors.ensures.1
    (steps_then c.in_ok-drop_names.ensures.steps c.in_err-drop_floors.ensures.steps)
    (λ clean is. absurd (c.in_err-drop_floors.ensures.unusable clean is))
