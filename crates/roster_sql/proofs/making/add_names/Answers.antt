use Rattle.std.proofs.Common.{List, sym, subst, ◌∙◌, arith}
use Rattle.sqlite.specs.Held.{state}
use Rattle.sqlite.specs.State.{HasCleanDisk}
use Rattle.sqlite.specs.Order.{Row}
use Rattle.floor_sql.specs.Stored.{HasOneRow}
use Rattle.floor_sql.proofs.StepLemmas.{changes, refuses, steps_then}
use Rattle.roster_sql.proofs.NamesLemmas.{names_made, self_kept, version_stays}
use Rattle.roster_sql.proofs.making.add_names.Goals as goal

pub create_bond-requires-clause-inside : goal.create_bond-requires-clause-inside
create_bond-requires-clause-inside g c = c.in_ok-create_roster.ensures.steps.goes

pub insert_entries-requires-clause-inside : goal.insert_entries-requires-clause-inside
insert_entries-requires-clause-inside g c = c.in_ok-create_bond.ensures.steps.goes

pub insert_bond-requires-clause-inside : goal.insert_bond-requires-clause-inside
insert_bond-requires-clause-inside g c = c.in_ok-insert_entries.ensures.steps.goes

pub update_version-requires-clause-inside : goal.update_version-requires-clause-inside
update_version-requires-clause-inside g c = c.in_ok-insert_bond.ensures.steps.goes

pub create_bond-requires-clause-schema : goal.create_bond-requires-clause-schema
create_bond-requires-clause-schema g c clean = (c.in_ok-create_roster.ensures.made clean).schema

pub insert_entries-requires-clause-schema : goal.insert_entries-requires-clause-schema
insert_entries-requires-clause-schema g c clean = (c.in_ok-create_bond.ensures.made clean).schema

pub insert_bond-requires-clause-schema : goal.insert_bond-requires-clause-schema
insert_bond-requires-clause-schema g c clean =
    let early : HasCleanDisk (state g.S.Store c.create_bond.new.tx.conn.now) = omega (arith, c.insert_entries.ensures.steps.crash.clean) in
    (c.in_ok-insert_entries.ensures.made clean).schema ∙ (c.in_ok-create_bond.ensures.made early).schema

pub update_version-requires-clause-there : goal.update_version-requires-clause-there
update_version-requires-clause-there g c clean =
    let s0 = state g.S.Store c.args.tx.now.conn.now in
    let s1 = state g.S.Store c.create_roster.new.tx.conn.now in
    let s2 = state g.S.Store c.create_bond.new.tx.conn.now in
    let s3 = state g.S.Store c.insert_entries.new.tx.conn.now in
    let s4 = state g.S.Store c.insert_bond.new.tx.conn.now in
    let clean3 : HasCleanDisk s3 = omega (arith, c.insert_bond.ensures.steps.crash.clean) in
    let clean2 : HasCleanDisk s2 = omega (arith, c.insert_entries.ensures.steps.crash.clean) in
    let clean1 : HasCleanDisk s1 = omega (arith, c.create_bond.ensures.steps.crash.clean) in
    let clean0 : HasCleanDisk s0 = omega (arith, c.create_roster.ensures.steps.crash.clean) in
    version_stays s0.now s1.now s2.now s3.now s4.now c.args.entries.now c.args.own.now (c.requires.there clean0) (c.in_ok-create_roster.ensures.made clean1) (c.in_ok-create_bond.ensures.made clean2)
    (c.in_ok-insert_entries.ensures.made clean3) (c.in_ok-insert_bond.ensures.made clean)

pub returns : goal.returns
returns g c =
    let s0 = state g.S.Store c.args.tx.now.conn.now in
    let s1 = state g.S.Store c.create_roster.new.tx.conn.now in
    let s2 = state g.S.Store c.create_bond.new.tx.conn.now in
    let s3 = state g.S.Store c.insert_entries.new.tx.conn.now in
    let s4 = state g.S.Store c.insert_bond.new.tx.conn.now in
    let s5 = state g.S.Store c.update_version.new.tx.conn.now in
    changes (steps_then (steps_then (steps_then (steps_then c.in_ok-create_roster.ensures.steps c.in_ok-create_bond.ensures.steps) c.in_ok-insert_entries.ensures.steps)
    c.in_ok-insert_bond.ensures.steps) c.in_ok-update_version.ensures.steps) (λ clean.
    let clean4 : HasCleanDisk s4 = omega (arith, c.update_version.ensures.steps.crash.clean) in
    let clean3 : HasCleanDisk s3 = omega (arith, c.insert_bond.ensures.steps.crash.clean) in
    let clean2 : HasCleanDisk s2 = omega (arith, c.insert_entries.ensures.steps.crash.clean) in
    let clean1 : HasCleanDisk s1 = omega (arith, c.create_bond.ensures.steps.crash.clean) in
    let clean0 : HasCleanDisk s0 = omega (arith, c.create_roster.ensures.steps.crash.clean) in
    names_made s0.now s1.now s2.now s3.now s4.now s5.now c.args.entries.now c.args.own.now (c.in_ok-create_roster.ensures.made clean1) (c.in_ok-create_bond.ensures.made clean2)
    (c.in_ok-insert_entries.ensures.made clean3) (c.in_ok-insert_bond.ensures.made clean4)
    (c.in_ok-update_version.ensures.made clean))

pub returns-in_err-create_roster : goal.returns-in_err-create_roster
returns-in_err-create_roster g c = refuses c.from_residual.ensures.1
    c.in_err-create_roster.ensures.steps (λ clean is. absurd (c.in_err-create_roster.ensures.unusable clean is))

pub returns-in_err-create_bond : goal.returns-in_err-create_bond
returns-in_err-create_bond g c = refuses c.from_residual-in_err-create_bond.ensures.1
    (steps_then c.in_ok-create_roster.ensures.steps c.in_err-create_bond.ensures.steps) (λ clean is. absurd (c.in_err-create_bond.ensures.unusable clean is))

pub returns-in_err-insert_entries : goal.returns-in_err-insert_entries
returns-in_err-insert_entries g c = refuses c.from_residual-in_err-insert_entries.ensures.1
    (steps_then (steps_then c.in_ok-create_roster.ensures.steps c.in_ok-create_bond.ensures.steps) c.in_err-insert_entries.ensures.steps) (λ clean is. absurd (c.in_err-insert_entries.ensures.unusable clean is))

pub returns-in_err-insert_bond : goal.returns-in_err-insert_bond
returns-in_err-insert_bond g c = refuses c.from_residual-in_err-insert_bond.ensures.1
    (steps_then (steps_then (steps_then c.in_ok-create_roster.ensures.steps c.in_ok-create_bond.ensures.steps) c.in_ok-insert_entries.ensures.steps) c.in_err-insert_bond.ensures.steps) (λ clean is. absurd (c.in_err-insert_bond.ensures.unusable clean is))

pub returns-in_err-update_version : goal.returns-in_err-update_version
returns-in_err-update_version g c =
    let s0 = state g.S.Store c.args.tx.now.conn.now in
    let s1 = state g.S.Store c.create_roster.new.tx.conn.now in
    let s2 = state g.S.Store c.create_bond.new.tx.conn.now in
    let s3 = state g.S.Store c.insert_entries.new.tx.conn.now in
    let s4 = state g.S.Store c.insert_bond.new.tx.conn.now in
    refuses c.from_residual-in_err-update_version.ensures.1
    (steps_then (steps_then (steps_then (steps_then c.in_ok-create_roster.ensures.steps c.in_ok-create_bond.ensures.steps) c.in_ok-insert_entries.ensures.steps) c.in_ok-insert_bond.ensures.steps) c.in_err-update_version.ensures.steps) (λ clean is one.
    let clean4 : HasCleanDisk s4 = omega (arith, c.update_version.ensures.steps.crash.clean) in
    let clean3 : HasCleanDisk s3 = omega (arith, c.insert_bond.ensures.steps.crash.clean) in
    let clean2 : HasCleanDisk s2 = omega (arith, c.insert_entries.ensures.steps.crash.clean) in
    let clean1 : HasCleanDisk s1 = omega (arith, c.create_bond.ensures.steps.crash.clean) in
    let clean0 : HasCleanDisk s0 = omega (arith, c.create_roster.ensures.steps.crash.clean) in
    c.in_err-update_version.ensures.unusable clean is (subst (λ (rows : List Row). HasOneRow rows 1)
    (sym (self_kept s0.now s1.now s2.now s3.now s4.now c.args.entries.now c.args.own.now (c.in_ok-create_roster.ensures.made clean1) (c.in_ok-create_bond.ensures.made clean2)
    (c.in_ok-insert_entries.ensures.made clean3) (c.in_ok-insert_bond.ensures.made clean4))) one))
