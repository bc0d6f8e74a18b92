use Rattle.std.proofs.Common.{List, sym, subst, arith}
use Rattle.sqlite.specs.Held.{state}
use Rattle.sqlite.specs.State.{HasCleanDisk}
use Rattle.sqlite.specs.Order.{Row}
use Rattle.floor_sql.specs.Stored.{HasOneRow}
use Rattle.floor_sql.proofs.StepLemmas.{changes, refuses, steps_then}
use Rattle.roster_sql.proofs.EnrolLemmas.{grown, version_kept}
use Rattle.roster_sql.proofs.enrolling.put_and_append.Goals as goal

pub append_tokens-requires-clause-inside : goal.append_tokens-requires-clause-inside
append_tokens-requires-clause-inside g c = c.in_ok-put_all.ensures.changes.steps.goes

pub append_tokens-requires-clause-there : goal.append_tokens-requires-clause-there
append_tokens-requires-clause-there g c clean =
    let s0 = state g.S.Store c.args.tx.now.conn.now in
    let s1 = state g.S.Store c.put_all.new.tx.conn.now in
    let early : HasCleanDisk s0 = omega (arith, c.put_all.ensures.changes.steps.crash.clean) in
    version_kept c.args.count c.args.puts.now s0.now s1.now (c.requires.can early) (c.in_ok-put_all.ensures.changes.made clean) (c.in_ok-put_all.ensures.one_row clean)
    (c.requires.there early)

pub returns : goal.returns
returns g c =
    let s0 = state g.S.Store c.args.tx.now.conn.now in
    let s1 = state g.S.Store c.put_all.new.tx.conn.now in
    let s2 = state g.S.Store c.append_tokens.new.tx.conn.now in
    changes (steps_then c.in_ok-put_all.ensures.changes.steps c.in_ok-append_tokens.ensures.steps) (λ clean.
    let early : HasCleanDisk s1 = omega (arith, c.append_tokens.ensures.steps.crash.clean) in
    grown c.args.tokens c.args.count c.args.puts.now c.args.floors.now c.args.entries.now s0.now s1.now s2.now (c.in_ok-put_all.ensures.changes.made early)
    (c.in_ok-put_all.ensures.one_row early) (c.in_ok-append_tokens.ensures.made clean))

pub returns-in_err-put_all : goal.returns-in_err-put_all
returns-in_err-put_all g c = refuses c.from_residual.ensures.1
    c.in_err-put_all.ensures.changes.steps (λ clean is. record { is = λ rows. absurd (c.in_err-put_all.ensures.changes.unusable clean is rows) })

pub returns-in_err-append_tokens : goal.returns-in_err-append_tokens
returns-in_err-append_tokens g c =
    let s1 = state g.S.Store c.put_all.new.tx.conn.now in
    refuses c.from_residual-in_err-append_tokens.ensures.1
    (steps_then c.in_ok-put_all.ensures.changes.steps c.in_err-append_tokens.ensures.steps) (λ clean is.
    let early : HasCleanDisk s1 = omega (arith, c.append_tokens.ensures.steps.crash.clean) in
    record { is = λ rows one. c.in_err-append_tokens.ensures.unusable clean is (subst (λ (l : List Row). HasOneRow l 1) (sym (c.in_ok-put_all.ensures.one_row early).self) one) })
