use Rattle.std.proofs.Common.{ℕ, Ok}
use Rattle.sqlite.specs.Held.{state}
use Rattle.sqlite.specs.State.{HasCleanDisk}
use Rattle.floor_sql.specs.Created.{AddsDrifts}
use Rattle.floor_sql.specs.Steps.{StepsInside}
use Rattle.floor_sql.proofs.create.insert_drifts.Given as goal

abbrev pub invariant-loop-token : goal.invariant-loop-token
invariant-loop-token g l =
    let old = state g.S.Store l.fn.tx.conn.now in
    let now = state g.S.Store l.tx.conn.now in
    record {
      steps : StepsInside g.S.Store {A = ℕ} l.fn.tx l.tx (Ok 0);
      added : HasCleanDisk now → AddsDrifts l.token old.now now.now;
    }
