use Rattle.std.proofs.Common.{◌≡◌, List, sym, subst, ◌∙◌, arith}
use Rattle.sqlite.specs.Held.{state}
use Rattle.sqlite.specs.State.{HasCleanDisk}
use Rattle.sqlite.specs.Order.{Row}
use Rattle.floor_sql.specs.Stored.{HasOneRow}
use Rattle.floor_sql.proofs.MigrateLemmas.{version_stays, version_added}
use Rattle.floor_sql.proofs.StepLemmas.{changes, refuses, steps_then}
use Rattle.floor_sql.proofs.migrate.add_version.Goals as goal

pub insert_drifts-requires-clause-inside : goal.insert_drifts-requires-clause-inside
insert_drifts-requires-clause-inside g c = c.in_ok-create_drift.ensures.steps.goes

pub insert_drifts-requires-clause-schema : goal.insert_drifts-requires-clause-schema
insert_drifts-requires-clause-schema g c clean = (c.in_ok-create_drift.ensures.made clean).schema

pub update_version-requires-clause-inside : goal.update_version-requires-clause-inside
update_version-requires-clause-inside g c = c.in_ok-insert_drifts.ensures.steps.goes

pub update_version-requires-clause-there : goal.update_version-requires-clause-there
update_version-requires-clause-there g c clean =
    let s0 = state g.S.Store c.args.tx.now.conn.now in
    let s1 = state g.S.Store c.create_drift.new.tx.conn.now in
    let s2 = state g.S.Store c.insert_drifts.new.tx.conn.now in
    let clean1 : HasCleanDisk s1 = omega (arith, c.insert_drifts.ensures.steps.crash.clean) in
    let clean0 : HasCleanDisk s0 = omega (arith, c.create_drift.ensures.steps.crash.clean) in
    version_stays s0.now s1.now _ c.args.tokens (c.requires.there clean0) (c.in_ok-create_drift.ensures.made clean1) (c.in_ok-insert_drifts.ensures.made clean)

pub returns : goal.returns
returns g c =
    let s0 = state g.S.Store c.args.tx.now.conn.now in
    let s1 = state g.S.Store c.create_drift.new.tx.conn.now in
    let s2 = state g.S.Store c.insert_drifts.new.tx.conn.now in
    let s3 = state g.S.Store c.update_version.new.tx.conn.now in
    changes (steps_then (steps_then c.in_ok-create_drift.ensures.steps c.in_ok-insert_drifts.ensures.steps) c.in_ok-update_version.ensures.steps) (λ clean.
    let clean2 : HasCleanDisk s2 = omega (arith, c.update_version.ensures.steps.crash.clean) in
    let clean1 : HasCleanDisk s1 = omega (arith, c.insert_drifts.ensures.steps.crash.clean) in
    let clean0 : HasCleanDisk s0 = omega (arith, c.create_drift.ensures.steps.crash.clean) in
    version_added s0.now s1.now s2.now s3.now c.args.tokens (c.requires.there clean0) (c.in_ok-create_drift.ensures.made clean1)
    (c.in_ok-insert_drifts.ensures.made clean2) (c.in_ok-update_version.ensures.made clean))

pub returns-in_err-create_drift : goal.returns-in_err-create_drift
returns-in_err-create_drift g c = refuses c.from_residual.ensures.1
    c.in_err-create_drift.ensures.steps (λ clean is. absurd (c.in_err-create_drift.ensures.unusable clean is))

pub returns-in_err-insert_drifts : goal.returns-in_err-insert_drifts
returns-in_err-insert_drifts g c = refuses c.from_residual-in_err-insert_drifts.ensures.1
    (steps_then c.in_ok-create_drift.ensures.steps c.in_err-insert_drifts.ensures.steps) (λ clean is. absurd (c.in_err-insert_drifts.ensures.unusable clean is))

pub returns-in_err-update_version : goal.returns-in_err-update_version
returns-in_err-update_version g c =
    let s0 = state g.S.Store c.args.tx.now.conn.now in
    let s1 = state g.S.Store c.create_drift.new.tx.conn.now in
    let s2 = state g.S.Store c.insert_drifts.new.tx.conn.now in
    let s3 = state g.S.Store c.update_version.new.tx.conn.now in
    refuses c.from_residual-in_err-update_version.ensures.1
    (steps_then (steps_then c.in_ok-create_drift.ensures.steps c.in_ok-insert_drifts.ensures.steps) c.in_err-update_version.ensures.steps) (λ clean is one.
    let clean2 : HasCleanDisk s2 = omega (arith, c.update_version.ensures.steps.crash.clean) in
    let clean1 : HasCleanDisk s1 = omega (arith, c.insert_drifts.ensures.steps.crash.clean) in
    let self = (c.in_ok-insert_drifts.ensures.made clean2).others 0 (λ (e : 0 ≡ 3). omega arith) ∙ (c.in_ok-create_drift.ensures.made clean1).self in
    c.in_err-update_version.ensures.unusable clean is (subst (λ (rows : List Row). HasOneRow rows 1) (sym self) one))
