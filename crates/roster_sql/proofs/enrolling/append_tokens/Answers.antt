use Rattle.std.proofs.Common.{◌+◌, List, length, sym, subst, ◌∙◌, arith}
use Rattle.sqlite.specs.Held.{state}
use Rattle.sqlite.specs.State.{HasCleanDisk}
use Rattle.sqlite.specs.Order.{Row}
use Rattle.floor_sql.specs.Stored.{HasOneRow}
use Rattle.floor_sql.proofs.StepLemmas.{changes, refuses, steps_then}
use Rattle.roster_sql.specs.Enrolled.{SetsTokens}
use Rattle.roster_sql.proofs.EnrolLemmas.{appended, self_kept, version_stays}
use Rattle.roster_sql.proofs.enrolling.append_tokens.Goals as goal

pub insert_rows-requires-clause-schema : goal.insert_rows-requires-clause-schema
insert_rows-requires-clause-schema g c clean = (c.requires.there clean).schema

pub insert_entries-requires-clause-inside : goal.insert_entries-requires-clause-inside
insert_entries-requires-clause-inside g c = c.in_ok-insert_rows.ensures.steps.goes

pub insert_entries-requires-clause-schema : goal.insert_entries-requires-clause-schema
insert_entries-requires-clause-schema g c clean =
    let early : HasCleanDisk (state g.S.Store c.args.tx.now.conn.now) = omega (arith, c.insert_rows.ensures.steps.crash.clean) in
    (c.in_ok-insert_rows.ensures.made clean).schema ∙ (c.requires.there early).schema

pub update_tokens-requires-clause-inside : goal.update_tokens-requires-clause-inside
update_tokens-requires-clause-inside g c = c.in_ok-insert_entries.ensures.steps.goes

pub update_tokens-requires-clause-there : goal.update_tokens-requires-clause-there
update_tokens-requires-clause-there g c clean =
    let s0 = state g.S.Store c.args.tx.now.conn.now in
    let s1 = state g.S.Store c.insert_rows.new.tx.conn.now in
    let s2 = state g.S.Store c.insert_entries.new.tx.conn.now in
    let clean1 : HasCleanDisk s1 = omega (arith, c.insert_entries.ensures.steps.crash.clean) in
    let clean0 : HasCleanDisk s0 = omega (arith, c.insert_rows.ensures.steps.crash.clean) in
    version_stays s0.now s1.now s2.now c.args.tokens c.args.floors.now c.args.entries.now (c.in_ok-insert_rows.ensures.made clean1)
    (c.in_ok-insert_entries.ensures.made clean) (c.requires.there clean0)

pub returns : goal.returns
returns g c =
    let s0 = state g.S.Store c.args.tx.now.conn.now in
    let s1 = state g.S.Store c.insert_rows.new.tx.conn.now in
    let s2 = state g.S.Store c.insert_entries.new.tx.conn.now in
    let s3 = state g.S.Store c.update_tokens.new.tx.conn.now in
    let floors = c.args.floors.now in
    changes (steps_then (steps_then c.in_ok-insert_rows.ensures.steps c.in_ok-insert_entries.ensures.steps) c.in_ok-update_tokens.ensures.steps) (λ clean.
    let clean2 : HasCleanDisk s2 = omega (arith, c.update_tokens.ensures.steps.crash.clean) in
    let clean1 : HasCleanDisk s1 = omega (arith, c.insert_entries.ensures.steps.crash.clean) in
    let sets : SetsTokens (c.args.tokens + length floors) s2.now s3.now = c.in_ok-update_tokens.ensures.made clean in
    appended s0.now s1.now s2.now c.args.tokens floors c.args.entries.now (c.in_ok-insert_rows.ensures.made clean1)
    (c.in_ok-insert_entries.ensures.made clean2) s3.now c.requires.counted sets)

pub returns-in_err-insert_rows : goal.returns-in_err-insert_rows
returns-in_err-insert_rows g c = refuses c.from_residual.ensures.1
    c.in_err-insert_rows.ensures.steps (λ clean is. absurd (c.in_err-insert_rows.ensures.unusable clean is))

pub returns-in_err-insert_entries : goal.returns-in_err-insert_entries
returns-in_err-insert_entries g c = refuses c.from_residual-in_err-insert_entries.ensures.1
    (steps_then c.in_ok-insert_rows.ensures.steps c.in_err-insert_entries.ensures.steps) (λ clean is. absurd (c.in_err-insert_entries.ensures.unusable clean is))

pub returns-in_err-update_tokens : goal.returns-in_err-update_tokens
returns-in_err-update_tokens g c =
    let s0 = state g.S.Store c.args.tx.now.conn.now in
    let s1 = state g.S.Store c.insert_rows.new.tx.conn.now in
    let s2 = state g.S.Store c.insert_entries.new.tx.conn.now in
    refuses c.from_residual-in_err-update_tokens.ensures.1
    (steps_then (steps_then c.in_ok-insert_rows.ensures.steps c.in_ok-insert_entries.ensures.steps) c.in_err-update_tokens.ensures.steps) (λ clean is one.
    let clean2 : HasCleanDisk s2 = omega (arith, c.update_tokens.ensures.steps.crash.clean) in
    let clean1 : HasCleanDisk s1 = omega (arith, c.insert_entries.ensures.steps.crash.clean) in
    c.in_err-update_tokens.ensures.unusable clean is (subst (λ (rows : List Row). HasOneRow rows 1)
    (sym (self_kept s0.now s1.now s2.now c.args.tokens c.args.floors.now c.args.entries.now (c.in_ok-insert_rows.ensures.made clean1)
    (c.in_ok-insert_entries.ensures.made clean2))) one))
