use Rattle.std.proofs.Common.{◌≡◌, List, sym, subst, ◌∙◌, arith}
use Rattle.sqlite.specs.Order.{Row}
use Rattle.sqlite.specs.Held.{state}
use Rattle.sqlite.specs.State.{HasCleanDisk}
use Rattle.floor_sql.specs.Stored.{HasKey, HasOneRow}
use Rattle.floor_sql.proofs.StepLemmas.{changes, refuses, steps_then}
use Rattle.floor_sql.proofs.write.update_row.Goals as goal

pub update_drift-requires-clause-inside : goal.update_drift-requires-clause-inside
update_drift-requires-clause-inside g c = c.in_ok-update_floor.ensures.steps.goes

pub update_drift-requires-clause-schema : goal.update_drift-requires-clause-schema
update_drift-requires-clause-schema g c clean =
    let there = c.requires.there (omega (arith, c.update_floor.ensures.steps.crash.clean)) in
    (there.schema.0, (c.in_ok-update_floor.ensures.made clean).schema ∙ there.schema.1)

pub update_drift-requires-clause-there : goal.update_drift-requires-clause-there
update_drift-requires-clause-there g c clean =
    let there = c.requires.there (omega (arith, c.update_floor.ensures.steps.crash.clean)) in
    subst (λ (rows : List Row). HasKey rows c.args.token) (sym ((c.in_ok-update_floor.ensures.made clean).others 3 (λ (e : 3 ≡ 1). omega arith))) there.drift

pub returns : goal.returns
returns g c =
    let mid = state g.S.Store c.update_floor.new.tx.conn.now in
    changes (steps_then c.in_ok-update_floor.ensures.steps c.in_ok-update_drift.ensures.steps) (λ clean.
    let early : HasCleanDisk mid = omega (arith, c.update_drift.ensures.steps.crash.clean) in
    let drifted = rw c.drift.ensures at (c.in_ok-update_drift.ensures.made clean) in
    (mid.now, c.in_ok-update_floor.ensures.made early, drifted))

pub returns-in_err-update_floor : goal.returns-in_err-update_floor
returns-in_err-update_floor g c = refuses c.from_residual.ensures.1 c.in_err-update_floor.ensures.steps
    (λ clean is once. c.in_err-update_floor.ensures.unusable clean is once.floor)

pub returns-in_err-update_drift : goal.returns-in_err-update_drift
returns-in_err-update_drift g c =
    let mid = state g.S.Store c.update_floor.new.tx.conn.now in
    refuses c.from_residual-in_err-update_drift.ensures.1
    (steps_then c.in_ok-update_floor.ensures.steps c.in_err-update_drift.ensures.steps) (λ clean is once.
    let early : HasCleanDisk mid = omega (arith, c.update_drift.ensures.steps.crash.clean) in
    let same_drifts = (c.in_ok-update_floor.ensures.made early).others 3 (λ (e : 3 ≡ 1). omega arith) in
    c.in_err-update_drift.ensures.unusable clean is
    (subst (λ (rows : List Row). HasOneRow rows c.args.token) (sym same_drifts) once.drift))
