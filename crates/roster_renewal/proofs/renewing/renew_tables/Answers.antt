use Rattle.std.proofs.Common.{arith}
use Rattle.sqlite.specs.Held.{state}
use Rattle.sqlite.specs.State.{HasCleanDisk}
use Rattle.floor_sql.proofs.StepLemmas.{changes, refuses, steps_then}
use Rattle.roster_renewal.proofs.RenewLemmas.{can_put, renews}
use Rattle.roster_renewal.proofs.renewing.renew_tables.Goals as goal

pub make_tables-requires-clause-inside : goal.make_tables-requires-clause-inside
make_tables-requires-clause-inside g c = c.in_ok-drop_tables.ensures.steps.goes

pub make_tables-requires-clause-schema : goal.make_tables-requires-clause-schema
make_tables-requires-clause-schema g c clean = c.in_ok-drop_tables.ensures.made clean

pub write_puts-requires-clause-inside : goal.write_puts-requires-clause-inside
write_puts-requires-clause-inside g c = c.in_ok-make_tables.ensures.steps.goes

pub write_puts-requires-clause-there : goal.write_puts-requires-clause-there
write_puts-requires-clause-there g c clean =
    let s1 = state g.S.Store c.drop_tables.new.tx.conn.now in
    let s2 = state g.S.Store c.make_tables.new.tx.conn.now in
    can_put c.args.node c.args.boot c.args.floors.now c.args.entries.now c.args.own.now c.args.puts.now s1.now s2.now (c.in_ok-make_tables.ensures.made clean) c.requires.puts

pub returns : goal.returns
returns g c =
    let s0 = state g.S.Store c.args.tx.now.conn.now in
    let s1 = state g.S.Store c.drop_tables.new.tx.conn.now in
    let s2 = state g.S.Store c.make_tables.new.tx.conn.now in
    let s3 = state g.S.Store c.write_puts.new.tx.conn.now in
    changes (steps_then (steps_then c.in_ok-drop_tables.ensures.steps c.in_ok-make_tables.ensures.steps) c.in_ok-write_puts.ensures.changes.steps) (λ clean.
    let early : HasCleanDisk s2 = omega (arith, c.write_puts.ensures.changes.steps.crash.clean) in
    let it = renews c.args.node c.args.boot c.args.floors.now c.args.entries.now c.args.own.now c.args.puts.now s1.now s2.now (c.in_ok-make_tables.ensures.made early)
    s3.now (c.in_ok-write_puts.ensures.changes.made clean) (c.in_ok-write_puts.ensures.one_row clean) in
    record { whole = it.whole; of_node = it.of_node })

pub returns-in_err-drop_tables : goal.returns-in_err-drop_tables
returns-in_err-drop_tables g c = refuses c.from_residual.ensures.1
    c.in_err-drop_tables.ensures.steps (λ clean is. absurd (c.in_err-drop_tables.ensures.unusable clean is))

pub returns-in_err-make_tables : goal.returns-in_err-make_tables
returns-in_err-make_tables g c = refuses c.from_residual-in_err-make_tables.ensures.1
    (steps_then c.in_ok-drop_tables.ensures.steps c.in_err-make_tables.ensures.steps) (λ clean is. absurd (c.in_err-make_tables.ensures.unusable clean is))

pub returns-in_err-write_puts : goal.returns-in_err-write_puts
returns-in_err-write_puts g c = refuses c.from_residual-in_err-write_puts.ensures.1
    (steps_then (steps_then c.in_ok-drop_tables.ensures.steps c.in_ok-make_tables.ensures.steps) c.in_err-write_puts.ensures.changes.steps)
    (λ clean is. absurd (c.in_err-write_puts.ensures.changes.unusable clean is))
