use Rattle.floor_sql.proofs.StepLemmas.{changes, refuses, steps_then}
use Rattle.roster_renewal.proofs.dropping.drop_names.Goals as goal

pub drop_roster-requires-clause-inside : goal.drop_roster-requires-clause-inside
drop_roster-requires-clause-inside g c = c.in_ok-drop_bond.ensures.steps.goes

pub drop_roster-requires-clause-schema : goal.drop_roster-requires-clause-schema
drop_roster-requires-clause-schema g c clean = c.in_ok-drop_bond.ensures.made clean

pub returns : goal.returns
returns g c = changes (steps_then c.in_ok-drop_bond.ensures.steps c.in_ok-drop_roster.ensures.steps) c.in_ok-drop_roster.ensures.made

pub returns-in_err-drop_bond : goal.returns-in_err-drop_bond
returns-in_err-drop_bond g c = refuses c.from_residual.ensures.1
    c.in_err-drop_bond.ensures.steps
    (λ clean is. absurd (c.in_err-drop_bond.ensures.unusable clean is))

pub returns-in_err-drop_roster : goal.returns-in_err-drop_roster
returns-in_err-drop_roster g c = refuses c.from_residual-in_err-drop_roster.ensures.1
    (steps_then c.in_ok-drop_bond.ensures.steps c.in_err-drop_roster.ensures.steps)
    (λ clean is. absurd (c.in_err-drop_roster.ensures.unusable clean is))
