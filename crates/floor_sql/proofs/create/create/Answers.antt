use Rattle.std.proofs.Common.{arith}
use Rattle.sqlite.specs.Held.{state}
use Rattle.sqlite.specs.State.{HasCleanDisk}
use Rattle.floor_sql.proofs.CreateLemmas.{all_made}
use Rattle.floor_sql.proofs.StepLemmas.{changes, refuses, steps_then}
use Rattle.floor_sql.proofs.create.create.Goals as goal

pub create_floor-requires-clause-inside : goal.create_floor-requires-clause-inside
create_floor-requires-clause-inside g c = c.in_ok-create_self.ensures.steps.goes

pub create_floor-requires-clause-schema : goal.create_floor-requires-clause-schema
create_floor-requires-clause-schema g c clean = (c.in_ok-create_self.ensures.made clean).schema

pub create_pass-requires-clause-inside : goal.create_pass-requires-clause-inside
create_pass-requires-clause-inside g c = c.in_ok-create_floor.ensures.steps.goes

pub create_pass-requires-clause-schema : goal.create_pass-requires-clause-schema
create_pass-requires-clause-schema g c clean = (c.in_ok-create_floor.ensures.made clean).schema

pub create_drift-requires-clause-inside : goal.create_drift-requires-clause-inside
create_drift-requires-clause-inside g c = c.in_ok-create_pass.ensures.steps.goes

pub create_drift-requires-clause-schema : goal.create_drift-requires-clause-schema
create_drift-requires-clause-schema g c clean = (c.in_ok-create_pass.ensures.made clean).schema

pub returns : goal.returns
returns g c =
    let s0 = state g.S.Store c.args.tx.now.conn.now in
    let s1 = state g.S.Store c.create_self.new.tx.conn.now in
    let s2 = state g.S.Store c.create_floor.new.tx.conn.now in
    let s3 = state g.S.Store c.create_pass.new.tx.conn.now in
    let s4 = state g.S.Store c.create_drift.new.tx.conn.now in
    changes (steps_then (steps_then (steps_then c.in_ok-create_self.ensures.steps c.in_ok-create_floor.ensures.steps) c.in_ok-create_pass.ensures.steps) c.in_ok-create_drift.ensures.steps) (λ clean.
    let clean3 : HasCleanDisk s3 = omega (arith, c.create_drift.ensures.steps.crash.clean) in
    let clean2 : HasCleanDisk s2 = omega (arith, c.create_pass.ensures.steps.crash.clean) in
    let clean1 : HasCleanDisk s1 = omega (arith, c.create_floor.ensures.steps.crash.clean) in
    all_made s0.now s1.now s2.now s3.now s4.now (c.in_ok-create_self.ensures.made clean1) (c.in_ok-create_floor.ensures.made clean2)
    (c.in_ok-create_pass.ensures.made clean3) (c.in_ok-create_drift.ensures.made clean))

pub returns-in_err-create_self : goal.returns-in_err-create_self
returns-in_err-create_self g c = refuses c.from_residual.ensures.1
    c.in_err-create_self.ensures.steps c.in_err-create_self.ensures.unusable

pub returns-in_err-create_floor : goal.returns-in_err-create_floor
returns-in_err-create_floor g c = refuses c.from_residual-in_err-create_floor.ensures.1
    (steps_then c.in_ok-create_self.ensures.steps c.in_err-create_floor.ensures.steps)
    c.in_err-create_floor.ensures.unusable

pub returns-in_err-create_pass : goal.returns-in_err-create_pass
returns-in_err-create_pass g c = refuses c.from_residual-in_err-create_pass.ensures.1
    (steps_then (steps_then c.in_ok-create_self.ensures.steps c.in_ok-create_floor.ensures.steps) c.in_err-create_pass.ensures.steps)
    c.in_err-create_pass.ensures.unusable

pub returns-in_err-create_drift : goal.returns-in_err-create_drift
returns-in_err-create_drift g c = refuses c.from_residual-in_err-create_drift.ensures.1
    (steps_then (steps_then (steps_then c.in_ok-create_self.ensures.steps c.in_ok-create_floor.ensures.steps) c.in_ok-create_pass.ensures.steps) c.in_err-create_drift.ensures.steps)
    c.in_err-create_drift.ensures.unusable
