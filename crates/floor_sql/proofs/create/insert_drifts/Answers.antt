use Rattle.std.proofs.Common.{◌≡◌, ℕ, subst, arith}
use Rattle.sqlite.specs.Held.{state}
use Rattle.sqlite.specs.State.{HasCleanDisk}
use Rattle.floor_sql.specs.Created.{AddsDrifts}
use Rattle.floor_sql.specs.declared.schema.Format.TheVariants.{Numbered}
use Rattle.floor_sql.proofs.CreateLemmas.{drifts_none, next_drifts}
use Rattle.floor_sql.proofs.StepLemmas.{begins, changes, goes_on, refuses, steps_then}
use Rattle.floor_sql.proofs.create.insert_drifts.Goals as goal

pub loop-token-init : goal.loop-token-init
loop-token-init g c = record {
  steps = begins c.args.tx.now c.requires.inside;
  added = λ clean. drifts_none (state g.S.Store c.args.tx.now.conn.now).now (c.requires.schema clean);
}

pub insert_drift-requires-clause-inside : goal.insert_drift-requires-clause-inside
insert_drift-requires-clause-inside g c = c.loop-token.invariant.steps.goes

pub insert_drift-requires-clause-schema : goal.insert_drift-requires-clause-schema
insert_drift-requires-clause-schema g c clean = (Numbered, (c.loop-token.invariant.added clean).schema)

pub loop-token-preserved : goal.loop-token-preserved
loop-token-preserved g c =
    let kept = c.loop-token.invariant in
    let old = state g.S.Store c.args.tx.now.conn.now in
    let mid = state g.S.Store c.loop-token.tx.conn.now in
    let new = state g.S.Store c.insert_drift.new.tx.conn.now in
    record {
      steps = goes_on (steps_then kept.steps c.in_ok-insert_drift.ensures.steps);
      added = λ clean.
          let early : HasCleanDisk mid = omega (arith, c.insert_drift.ensures.steps.crash.clean) in
          next_drifts old.now mid.now new.now c.loop-token.token (kept.added early) (c.in_ok-insert_drift.ensures.made clean);
    }

pub returns-in_err-insert_drift : goal.returns-in_err-insert_drift
returns-in_err-insert_drift g c = refuses c.from_residual.ensures.1
    (steps_then c.loop-token.invariant.steps c.in_err-insert_drift.ensures.steps) c.in_err-insert_drift.ensures.unusable

pub returns : goal.returns
returns g c =
    let old = state g.S.Store c.args.tx.now.conn.now in
    let new = state g.S.Store c.loop-token.tx.conn.now in
    let all : c.loop-token.token ≡ c.args.tokens = omega arith in
    changes c.loop-token.invariant.steps
    (λ clean. subst (λ (n : ℕ). AddsDrifts n old.now new.now) all (c.loop-token.invariant.added clean))
