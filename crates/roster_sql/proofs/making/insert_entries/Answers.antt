use Rattle.std.proofs.Common.{◌≡◌, ◌<◌, List, length, take, ◌∙◌, subst, arith, rules}
use Rattle.std.proofs.lemmas.List.{take_all}
use Rattle.sqlite.specs.Held.{state}
use Rattle.sqlite.specs.State.{HasCleanDisk}
use Rattle.floor_sql.proofs.StepLemmas.{begins, changes, goes_on, refuses, steps_then}
use Rattle.roster_sql.specs.Made.{AddsEntries}
use Rattle.roster_sql.specs.declared.entry.Entry.{Entry}
use Rattle.roster_sql.proofs.MakingLemmas.{entries_none, entry_at, next_entries}
use Rattle.roster_sql.proofs.making.insert_entries.Goals as goal

pub loop-entry-init : goal.loop-entry-init
loop-entry-init g c = record {
  number = omega arith;
  steps = begins c.args.tx.now c.requires.inside;
  added = λ clean. entries_none c.args.first (state g.S.Store c.args.tx.now.conn.now).now;
}

pub insert_entry-requires-clause-inside : goal.insert_entry-requires-clause-inside
insert_entry-requires-clause-inside g c = c.loop-entry.invariant.steps.goes

pub insert_entry-requires-clause-schema : goal.insert_entry-requires-clause-schema
insert_entry-requires-clause-schema g c clean =
    let kept = c.loop-entry.invariant in
    (kept.added clean).schema ∙ c.requires.schema (omega (arith, kept.steps.crash.clean))

pub loop-entry-preserved : goal.loop-entry-preserved
loop-entry-preserved g c =
    let kept = c.loop-entry.invariant in
    let old = state g.S.Store c.args.tx.now.conn.now in
    let mid = state g.S.Store c.loop-entry.tx.conn.now in
    let new = state g.S.Store c.insert_entry.new.tx.conn.now in
    let entries = c.args.entries.now in
    let i = c.loop-entry.entry-index in
    let inside : i < length entries = omega arith in
    record {
      number = omega (arith, kept.number);
      steps = goes_on (steps_then kept.steps c.in_ok-insert_entry.ensures.steps);
      added = λ clean.
          let early : HasCleanDisk mid = omega (arith, c.insert_entry.ensures.steps.crash.clean) in
          let made = c.in_ok-insert_entry.ensures.made clean in
          next_entries c.args.first entries i c.loop-entry.token old.now mid.now new.now made (entry_at entries i inside (search rules)) kept.number (kept.added early);
    }

pub returns-in_err-insert_entry : goal.returns-in_err-insert_entry
returns-in_err-insert_entry g c = refuses c.from_residual.ensures.1
    (steps_then c.loop-entry.invariant.steps c.in_err-insert_entry.ensures.steps) c.in_err-insert_entry.ensures.unusable

pub returns : goal.returns
returns g c =
    let old = state g.S.Store c.args.tx.now.conn.now in
    let new = state g.S.Store c.loop-entry.tx.conn.now in
    let entries = c.args.entries.now in
    let all : take c.loop-entry.entry-index entries ≡ entries = take_all c.loop-entry.entry-index entries (omega arith) in
    changes c.loop-entry.invariant.steps
    (λ clean. subst (λ (l : List Entry). AddsEntries c.args.first l old.now new.now) all (c.loop-entry.invariant.added clean))
