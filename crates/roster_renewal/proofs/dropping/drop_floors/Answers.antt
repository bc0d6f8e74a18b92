use Rattle.floor_sql.proofs.StepLemmas.{changes, refuses, steps_then}
use Rattle.roster_renewal.proofs.dropping.drop_floors.Goals as goal

pub drop_pass-requires-clause-inside : goal.drop_pass-requires-clause-inside
drop_pass-requires-clause-inside g c = c.in_ok-drop_drift.ensures.steps.goes

pub drop_pass-requires-clause-schema : goal.drop_pass-requires-clause-schema
drop_pass-requires-clause-schema g c clean = c.in_ok-drop_drift.ensures.made clean

pub drop_floor-requires-clause-inside : goal.drop_floor-requires-clause-inside
drop_floor-requires-clause-inside g c = c.in_ok-drop_pass.ensures.steps.goes

pub drop_floor-requires-clause-schema : goal.drop_floor-requires-clause-schema
drop_floor-requires-clause-schema g c clean = c.in_ok-drop_pass.ensures.made clean

pub drop_self-requires-clause-inside : goal.drop_self-requires-clause-inside
drop_self-requires-clause-inside g c = c.in_ok-drop_floor.ensures.steps.goes

pub drop_self-requires-clause-schema : goal.drop_self-requires-clause-schema
drop_self-requires-clause-schema g c clean = c.in_ok-drop_floor.ensures.made clean

pub returns : goal.returns
returns g c = changes (steps_then (steps_then (steps_then c.in_ok-drop_drift.ensures.steps c.in_ok-drop_pass.ensures.steps) c.in_ok-drop_floor.ensures.steps) c.in_ok-drop_self.ensures.steps) c.in_ok-drop_self.ensures.made

pub returns-in_err-drop_drift : goal.returns-in_err-drop_drift
returns-in_err-drop_drift g c = refuses c.from_residual.ensures.1
    c.in_err-drop_drift.ensures.steps
    (λ clean is. absurd (c.in_err-drop_drift.ensures.unusable clean is))

pub returns-in_err-drop_pass : goal.returns-in_err-drop_pass
returns-in_err-drop_pass g c = refuses c.from_residual-in_err-drop_pass.ensures.1
    (steps_then c.in_ok-drop_drift.ensures.steps c.in_err-drop_pass.ensures.steps)
    (λ clean is. absurd (c.in_err-drop_pass.ensures.unusable clean is))

pub returns-in_err-drop_floor : goal.returns-in_err-drop_floor
returns-in_err-drop_floor g c = refuses c.from_residual-in_err-drop_floor.ensures.1
    (steps_then (steps_then c.in_ok-drop_drift.ensures.steps c.in_ok-drop_pass.ensures.steps) c.in_err-drop_floor.ensures.steps)
    (λ clean is. absurd (c.in_err-drop_floor.ensures.unusable clean is))

pub returns-in_err-drop_self : goal.returns-in_err-drop_self
returns-in_err-drop_self g c = refuses c.from_residual-in_err-drop_self.ensures.1
    (steps_then (steps_then (steps_then c.in_ok-drop_drift.ensures.steps c.in_ok-drop_pass.ensures.steps) c.in_ok-drop_floor.ensures.steps) c.in_err-drop_self.ensures.steps)
    (λ clean is. absurd (c.in_err-drop_self.ensures.unusable clean is))
