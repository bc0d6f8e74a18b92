use Rattle.std.proofs.Common.{◌≡◌, ◌<◌, ℕ, List, length, take, ◌∙◌, subst, arith}
use Rattle.std.proofs.lemmas.List.{take_all}
use Rattle.sqlite.specs.Held.{state}
use Rattle.sqlite.specs.State.{HasCleanDisk}
use Rattle.floor_sql.proofs.StepLemmas.{begins, changes, goes_on, refuses, steps_then}
use Rattle.roster_sql.specs.Enrolled.{AddsRows}
use Rattle.roster_sql.proofs.EnrolLemmas.{next_rows, rows_none}
use Rattle.roster_sql.proofs.enrolling.insert_rows.Goals as goal

pub loop-next-init : goal.loop-next-init
loop-next-init g c = record {
  number = omega arith;
  steps = begins c.args.tx.now c.requires.inside;
  added = λ clean. rows_none c.args.first (state g.S.Store c.args.tx.now.conn.now).now;
}

pub insert_row-requires-clause-inside : goal.insert_row-requires-clause-inside
insert_row-requires-clause-inside g c = c.loop-next.invariant.steps.goes

pub insert_row-requires-clause-schema : goal.insert_row-requires-clause-schema
insert_row-requires-clause-schema g c clean =
    let kept = c.loop-next.invariant in
    (kept.added clean).schema ∙ c.requires.schema (omega (arith, kept.steps.crash.clean))

pub loop-next-preserved : goal.loop-next-preserved
loop-next-preserved g c =
    let kept = c.loop-next.invariant in
    let old = state g.S.Store c.args.tx.now.conn.now in
    let mid = state g.S.Store c.loop-next.tx.conn.now in
    let new = state g.S.Store c.insert_row.new.tx.conn.now in
    let floors = c.args.floors.now in
    let i = c.loop-next.next-index in
    record {
      number = omega (arith, kept.number);
      steps = goes_on (steps_then kept.steps c.in_ok-insert_row.ensures.steps);
      added = λ clean.
          let early : HasCleanDisk mid = omega (arith, c.insert_row.ensures.steps.crash.clean) in
          let low : i < length floors = omega arith in
          next_rows c.args.first floors i c.loop-next.token c.next-item.result old.now mid.now new.now low c.next-item.is kept.number
          (c.in_ok-insert_row.ensures.made clean) (kept.added early);
    }

pub returns-in_err-insert_row : goal.returns-in_err-insert_row
returns-in_err-insert_row g c = refuses c.from_residual.ensures.1
    (steps_then c.loop-next.invariant.steps c.in_err-insert_row.ensures.steps) c.in_err-insert_row.ensures.unusable

pub returns : goal.returns
returns g c =
    let old = state g.S.Store c.args.tx.now.conn.now in
    let new = state g.S.Store c.loop-next.tx.conn.now in
    let floors = c.args.floors.now in
    let all : take c.loop-next.next-index floors ≡ floors = take_all c.loop-next.next-index floors (omega arith) in
    changes c.loop-next.invariant.steps
    (λ clean. subst (λ (l : List ℕ). AddsRows c.args.first l old.now new.now) all (c.loop-next.invariant.added clean))
