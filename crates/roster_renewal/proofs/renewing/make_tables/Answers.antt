use Rattle.std.proofs.Common.{arith}
use Rattle.sqlite.specs.Held.{state}
use Rattle.sqlite.specs.State.{HasCleanDisk}
use Rattle.floor_sql.proofs.StepLemmas.{changes, refuses, steps_then}
use Rattle.roster_sql.proofs.OpeningLemmas.{has_version, opens_named}
use Rattle.roster_renewal.proofs.renewing.make_tables.Goals as goal

pub add_names-requires-clause-inside : goal.add_names-requires-clause-inside
add_names-requires-clause-inside g c = c.in_ok-fill.ensures.steps.goes

pub add_names-requires-clause-there : goal.add_names-requires-clause-there
add_names-requires-clause-there g c clean =
    let s0 = state g.S.Store c.args.tx.now.conn.now in
    let s1 = state g.S.Store c.fill.new.tx.conn.now in
    has_version c.args.node c.args.boot c.args.floors.now s0.now s1.now (c.in_ok-fill.ensures.made clean)

pub returns : goal.returns
returns g c =
    let s0 = state g.S.Store c.args.tx.now.conn.now in
    let s1 = state g.S.Store c.fill.new.tx.conn.now in
    let s2 = state g.S.Store c.add_names.new.tx.conn.now in
    changes (steps_then c.in_ok-fill.ensures.steps c.in_ok-add_names.ensures.steps) (λ clean.
    let early : HasCleanDisk s1 = omega (arith, c.add_names.ensures.steps.crash.clean) in
    opens_named c.args.node c.args.boot c.args.floors.now s0.now s1.now (c.in_ok-fill.ensures.made early)
    c.args.entries.now c.args.own.now s2.now c.requires.counted (c.in_ok-add_names.ensures.made clean))

pub returns-in_err-fill : goal.returns-in_err-fill
returns-in_err-fill g c = refuses c.from_residual.ensures.1 c.in_err-fill.ensures.steps c.in_err-fill.ensures.unusable

pub returns-in_err-add_names : goal.returns-in_err-add_names
returns-in_err-add_names g c = refuses c.from_residual-in_err-add_names.ensures.1
    (steps_then c.in_ok-fill.ensures.steps c.in_err-add_names.ensures.steps) (λ clean is.
    let early : HasCleanDisk (state g.S.Store c.fill.new.tx.conn.now) = omega (arith, c.add_names.ensures.steps.crash.clean) in
    c.in_err-add_names.ensures.unusable clean is (c.in_ok-fill.ensures.made early).one_self)
