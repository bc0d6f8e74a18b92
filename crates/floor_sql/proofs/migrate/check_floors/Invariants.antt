use Rattle.std.proofs.Common.{ℕ, Ok}
use Rattle.sqlite.specs.State.{HasCleanDisk}
use Rattle.sqlite.specs.Held.{state}
use Rattle.floor_sql.specs.Migrate.{HasUndrifted}
use Rattle.floor_sql.specs.Steps.{ReadsOnly}
use Rattle.floor_sql.proofs.migrate.check_floors.Given as goal

abbrev pub invariant-loop-token : goal.invariant-loop-token
invariant-loop-token g l =
    let old = state g.S.Store l.fn.conn in
    let now = state g.S.Store l.conn in
    record {
      reads : ReadsOnly g.S.Store {A = ℕ} l.fn.conn l.conn (Ok 0);
      held : HasCleanDisk now → HasUndrifted old.now.trees l.token;
    }
