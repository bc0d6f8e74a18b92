use Rattle.std.proofs.Common.{◌∙◌, arith}
use Rattle.sqlite.specs.Held.{state}
use Rattle.sqlite.specs.State.{HasCleanDisk}
use Rattle.floor_sql.specs.declared.schema.Format.TheVariants.{Named}
use Rattle.floor_sql.proofs.StepLemmas.{changes, refuses, steps_then}
use Rattle.roster_sql.proofs.EnrolLemmas.{row_added}
use Rattle.roster_sql.proofs.enrolling.insert_row.Goals as goal

pub insert_floor-requires-clause-schema : goal.insert_floor-requires-clause-schema
insert_floor-requires-clause-schema g c clean = (Named, c.requires.schema clean)

pub insert_drift-requires-clause-inside : goal.insert_drift-requires-clause-inside
insert_drift-requires-clause-inside g c = c.in_ok-insert_floor.ensures.steps.goes

pub insert_drift-requires-clause-schema : goal.insert_drift-requires-clause-schema
insert_drift-requires-clause-schema g c clean =
    let early : HasCleanDisk (state g.S.Store c.args.tx.now.conn.now) = omega (arith, c.insert_floor.ensures.steps.crash.clean) in
    (Named, (c.in_ok-insert_floor.ensures.made clean).schema ∙ c.requires.schema early)

pub returns : goal.returns
returns g c =
    let s0 = state g.S.Store c.args.tx.now.conn.now in
    let s1 = state g.S.Store c.insert_floor.new.tx.conn.now in
    let s2 = state g.S.Store c.insert_drift.new.tx.conn.now in
    changes (steps_then c.in_ok-insert_floor.ensures.steps c.in_ok-insert_drift.ensures.steps) (λ clean.
    let early : HasCleanDisk s1 = omega (arith, c.insert_drift.ensures.steps.crash.clean) in
    row_added s0.now s1.now s2.now c.args.token c.args.next (c.in_ok-insert_floor.ensures.made early) (c.in_ok-insert_drift.ensures.made clean))

pub returns-in_err-insert_floor : goal.returns-in_err-insert_floor
returns-in_err-insert_floor g c = refuses c.from_residual.ensures.1
    c.in_err-insert_floor.ensures.steps c.in_err-insert_floor.ensures.unusable

pub returns-in_err-insert_drift : goal.returns-in_err-insert_drift
returns-in_err-insert_drift g c = refuses c.from_residual-in_err-insert_drift.ensures.1
    (steps_then c.in_ok-insert_floor.ensures.steps c.in_err-insert_drift.ensures.steps) c.in_err-insert_drift.ensures.unusable
